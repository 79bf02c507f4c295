use Rattle.std.proofs.Common.{List, ℕ, Bool, cond, ap₂, subst, inl, inr}
use Rattle.gm_opener.specs.Opened.{TakesIn}
use Rattle.sqlite.specs.Files.{file_state}
use Rattle.sqlite_disk.specs.Events.{Event, replay}
use Rattle.sqlite_wal.specs.Recovery.{Image}
use Rattle.gm_opener.proofs.at_path.open_store.Goals as goal

-- what reads return of a file that was just opened
abbrev held : List ℕ → List ℕ → Bool → List Event → List ℕ
held log db is_log history = (replay (cond is_log log db) history).seen

abbrev both : List ℕ → List ℕ → Image
both log db = record { log = log; db = db }

pub returns-in-Ok-open_files-clause-found : goal.returns-in-Ok-open_files-clause-found
returns-in-Ok-open_files-clause-found g c clean =
    let (log, db) = c.in-Ok-files_at.ensures.fresh in
    let seen = held g.S.Start.log g.S.Start.db in
    let same = ap₂ both (ap₂ seen log.0 log.1) (ap₂ seen db.0 db.1) in
    let s = file_state c.in-Ok-open_files.store in
    subst (λ i. TakesIn i s) same (elim (c.in-Ok-open_files.ensures.found clean) [
      | inl made ↦ inl (made.blank, made.empty)
      | inr found ↦ inr (record { holds = found.holds; reads = found.reads })
    ])

pub returns-in-Err-open_files-clause-unharmed : goal.returns-in-Err-open_files-clause-unharmed
returns-in-Err-open_files-clause-unharmed g c =
    let fresh = c.in-Ok-files_at.ensures.fresh in
    (c.in-Ok-files_at.files, fresh.0, fresh.1, c.in-Err-open_files.ensures.unharmed)
