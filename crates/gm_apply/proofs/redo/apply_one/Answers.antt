use Rattle.gm_apply.proofs.Common.{zeros, Clear, Copy, Dirty, Meta, Patch, CarriesOut}
use Rattle.gm_apply.proofs.OneIntent.{copy_carried, dirty_carried, last_written, meta_carried, passed_on, patch_carried}
use Rattle.gm_apply.proofs.redo.apply_one.Goals as goal

pub returns-in_err-write_found-in-Meta : goal.returns-in_err-write_found-in-Meta
returns-in_err-write_found-in-Meta g c = rw c.in-Meta.is (
    passed_on (λ r. CarriesOut g.H.Shelf c.args.shelf.now c.write_found.new.shelf r c.args.state.now
    c.args.bytes.now (Meta c.in-Meta.provider))
    c.from_residual.result _ c.from_residual.ensures.1
    (meta_carried g.H.Shelf c.args.shelf.now c.write_found.new.shelf _ c.args.state.now
    c.args.bytes.now c.metadata_of.ensures.state c.in-Meta.provider c.metadata_of.result
    c.in_err-write_found-in-Meta.ensures c.metadata_of.ensures.value))

pub returns-in_ok-write_found-in-Meta : goal.returns-in_ok-write_found-in-Meta
returns-in_ok-write_found-in-Meta g c = rw c.in-Meta.is (
    meta_carried g.H.Shelf c.args.shelf.now c.write_found.new.shelf _ c.args.state.now
    c.args.bytes.now c.metadata_of.ensures.state c.in-Meta.provider c.metadata_of.result
    c.in_ok-write_found-in-Meta.ensures c.metadata_of.ensures.value)

pub returns-in_err-write_last-in-Clear : goal.returns-in_err-write_last-in-Clear
returns-in_err-write_last-in-Clear g c = rw c.in-Clear.is (
    passed_on (λ r. CarriesOut g.H.Shelf c.args.shelf.now c.write_last.new.shelf r c.args.state.now
    c.args.bytes.now (Clear c.in-Clear.provider))
    c.from_residual-in_err-write_last-in-Clear.result _
    c.from_residual-in_err-write_last-in-Clear.ensures.1
    (last_written g.H.Shelf c.args.shelf.now c.write_last.new.shelf _ c.in-Clear.provider zeros
    c.in_err-write_last-in-Clear.ensures))

pub returns-in_ok-write_last-in-Clear : goal.returns-in_ok-write_last-in-Clear
returns-in_ok-write_last-in-Clear g c = rw c.in-Clear.is (
    last_written g.H.Shelf c.args.shelf.now c.write_last.new.shelf _ c.in-Clear.provider zeros
    c.in_ok-write_last-in-Clear.ensures)

pub returns-in_err-copy_sectors-in-Copy : goal.returns-in_err-copy_sectors-in-Copy
returns-in_err-copy_sectors-in-Copy g c = rw c.in-Copy.is (
    passed_on (λ r. CarriesOut g.H.Shelf c.args.shelf.now c.copy_sectors.new.shelf r
    c.args.state.now c.args.bytes.now (Copy c.in-Copy.source c.in-Copy.target c.in-Copy.first
    c.in-Copy.end))
    c.from_residual-in_err-copy_sectors-in-Copy.result _
    c.from_residual-in_err-copy_sectors-in-Copy.ensures.1
    (copy_carried g.H.Shelf c.args.shelf.now c.copy_sectors.new.shelf _ c.args.state.now
    c.args.bytes.now c.in-Copy.first c.in-Copy.end c.from.result c.from-in-Copy.result
    c.from.ensures c.from-in-Copy.ensures c.in-Copy.source c.in-Copy.target
    c.in_err-copy_sectors-in-Copy.ensures))

pub returns-in_ok-copy_sectors-in-Copy : goal.returns-in_ok-copy_sectors-in-Copy
returns-in_ok-copy_sectors-in-Copy g c = rw c.in-Copy.is (
    copy_carried g.H.Shelf c.args.shelf.now c.copy_sectors.new.shelf _ c.args.state.now
    c.args.bytes.now c.in-Copy.first c.in-Copy.end c.from.result c.from-in-Copy.result
    c.from.ensures c.from-in-Copy.ensures c.in-Copy.source c.in-Copy.target
    c.in_ok-copy_sectors-in-Copy.ensures)

pub returns-in_err-write_found-in-Dirty : goal.returns-in_err-write_found-in-Dirty
returns-in_err-write_found-in-Dirty g c = rw c.in-Dirty.is (
    passed_on (λ r. CarriesOut g.H.Shelf c.args.shelf.now c.write_found-in-Dirty.new.shelf r
    c.args.state.now c.args.bytes.now (Dirty c.in-Dirty.provider))
    c.from_residual-in_err-write_found-in-Dirty.result _
    c.from_residual-in_err-write_found-in-Dirty.ensures.1
    (dirty_carried g.H.Shelf c.args.shelf.now c.write_found-in-Dirty.new.shelf _ c.args.state.now
    c.args.bytes.now c.dirty_metadata_of.ensures.state c.in-Dirty.provider
    c.dirty_metadata_of.result c.in_err-write_found-in-Dirty.ensures
    c.dirty_metadata_of.ensures.value))

pub returns-in_ok-write_found-in-Dirty : goal.returns-in_ok-write_found-in-Dirty
returns-in_ok-write_found-in-Dirty g c = rw c.in-Dirty.is (
    dirty_carried g.H.Shelf c.args.shelf.now c.write_found-in-Dirty.new.shelf _ c.args.state.now
    c.args.bytes.now c.dirty_metadata_of.ensures.state c.in-Dirty.provider
    c.dirty_metadata_of.result c.in_ok-write_found-in-Dirty.ensures
    c.dirty_metadata_of.ensures.value)

pub returns-in_err-lay_sectors-in-Patch : goal.returns-in_err-lay_sectors-in-Patch
returns-in_err-lay_sectors-in-Patch g c = rw c.in-Patch.is (
    passed_on (λ r. CarriesOut g.H.Shelf c.args.shelf.now c.lay_sectors.new.shelf r c.args.state.now
    c.args.bytes.now (Patch c.in-Patch.provider c.in-Patch.first c.in-Patch.end))
    c.from_residual-in_err-lay_sectors-in-Patch.result _
    c.from_residual-in_err-lay_sectors-in-Patch.ensures.1
    (patch_carried g.H.Shelf c.args.shelf.now c.lay_sectors.new.shelf _ c.args.state.now
    c.args.bytes.now c.in-Patch.first c.in-Patch.end c.from-in-Patch.result
    c.from-in-Patch-2.result c.from-in-Patch.ensures c.from-in-Patch-2.ensures c.in-Patch.provider
    c.in_err-lay_sectors-in-Patch.ensures))

pub returns-in_ok-lay_sectors-in-Patch : goal.returns-in_ok-lay_sectors-in-Patch
returns-in_ok-lay_sectors-in-Patch g c = rw c.in-Patch.is (
    patch_carried g.H.Shelf c.args.shelf.now c.lay_sectors.new.shelf _ c.args.state.now
    c.args.bytes.now c.in-Patch.first c.in-Patch.end c.from-in-Patch.result
    c.from-in-Patch-2.result c.from-in-Patch.ensures c.from-in-Patch-2.ensures c.in-Patch.provider
    c.in_ok-lay_sectors-in-Patch.ensures)
