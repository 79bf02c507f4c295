use Rattle.std.proofs.Common.{sym, ap, subst, ◌∙◌, inl, arith}
use Rattle.std.proofs.lemmas.Result.{err_from_is_err_and}
use Rattle.sqlite.specs.Files.{IsEmpty}
use Rattle.sqlite_store.specs.FileStore.{view as shown}
use Rattle.sqlite_store.specs.Laws.{settled_at}
use Rattle.sqlite_trees.proofs.Doubt.{clean_of as sure, no_doubt}
use Rattle.gm_opener.proofs.making.make.Goals as goal

pub returns-in_err-store-clause-unharmed : goal.returns-in_err-store-clause-unharmed
returns-in_err-store-clause-unharmed g c =
    let it = err_from_is_err_and c.from_residual.result c.from_residual.ensures.1 in
    rw (it.1, it.2) c.in_err-store.ensures.unharmed

pub over-requires : goal.over-requires
over-requires g c none = (c.in_ok-store.ensures.made (sure _ none)).fresh

pub returns-in-Ok-clause-ready : goal.returns-in-Ok-clause-ready
returns-in-Ok-clause-ready g c =
    let over = c.in-Ok.ensures in
    let was = (shown c.in_ok-store.store).is_clean in
    record {
      opened = over.opens;
      guarded = λ now.
          over.shield (c.in_ok-store.ensures.made (sure was (omega (arith, now, over.clean)))).shielded;
      fresh = over.fresh;
    }

pub returns-in-Ok-clause-made : goal.returns-in-Ok-clause-made
returns-in-Ok-clause-made g c now =
    let over = c.in-Ok.ensures in
    let still = sure (shown c.in_ok-store.store).is_clean (omega (arith, now, over.clean)) in
    let trees = sym (ap (λ d. d.trees) (over.opens now).0.clean) ∙ over.trees now in
    let clean = c.in_ok-store.ensures.clean still in
    record {
      clean = clean;
      blank = c.requires.blank clean;
      empty = subst IsEmpty (sym trees) (c.in_ok-store.ensures.made still).empty;
    }

pub returns-in-Err-clause-unharmed : goal.returns-in-Err-clause-unharmed
returns-in-Err-clause-unharmed g c late =
    let store = c.in_ok-store.store in
    let quiet = c.in-Err.ensures.unharmed in
    let now = no_doubt _ late in
    let still = sure (shown store).is_clean (omega (arith, now, quiet.clean)) in
    let made = c.in_ok-store.ensures.made still in
    let stays = g.met.D.Disk.seen_may_stay in
    inl (
      c.requires.blank (c.in_ok-store.ensures.clean still),
      λ found may.
          let is = settled_at store stays found made.is_open (quiet.outcomes found may) in
          subst IsEmpty (sym (is ∙ sym made.fresh.clean)) made.empty,
    )
