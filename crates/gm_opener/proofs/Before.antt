-- What is so of files that were only read was so of them before.
use Rattle.std.proofs.Common.{◌≡◌, sym, subst, inl, inr}
use Rattle.gm_opener.specs.Opened.{IsBlank, IsStillEmpty, Leaves}
use Rattle.sqlite.proofs.FileLemmas.{same_image}
use Rattle.sqlite.specs.Files.{file_state, image_of, AreFoundIn, BeginsWell, Finds, HoldsDatabase, IsKept, IsNothing, LeavesFiles, NamesSize, SaysSums}
use Rattle.sqlite.specs.Held.{Held}
use Rattle.sqlite.specs.declared.file.Leftover.{Leftover}
use Rattle.sqlite.specs.declared.file.Leftover.TheVariants as left
use Rattle.sqlite_disk.specs.declared.Disk.{Ghosts}
use Rattle.sqlite_disk.specs.declared.Files.{Files}
use Rattle.sqlite_pool.specs.Stored.{stored_size, IsUnreadable, StandsAs}
use Rattle.sqlite_store.specs.Unopened.{state_of}
use Rattle.sqlite_store.specs.declared.store.FileStore.{FileStore}
use Rattle.sqlite_wal.proofs.CleanLemmas.{both_clean}
use Rattle.sqlite_wal.specs.Files.{outcomes}
use Rattle.sqlite_wal.specs.Reads.{OnlyReads}
use Rattle.sqlite_wal.specs.Recovery.{Image}

module _ {D : Type 0} {g : Ghosts D} (old new : Files D) (log : OnlyReads g old.log new.log)
    (db : OnlyReads g old.db new.db) where
  same : image_of g new ≡ image_of g old
  same = same_image log db

  was_left : (image : Image) → outcomes g new.log new.db image → outcomes g old.log old.db image
  was_left image may = (log.crash _ may.0, db.crash _ may.1)

  pub finds_before : (c : Held (FileStore D g)) → Finds new c → Finds old c
  finds_before c found = record {
    honest = both_clean _ _ _ _ log.clean db.clean found.honest;
    holds = λ it held. found.holds it (subst (λ i. HoldsDatabase i it) (sym same) held);
    reads = subst (λ i. AreFoundIn i (file_state c).committed.trees) same found.reads;
  }

  empty_before : (left : Leftover D g) → IsStillEmpty new left → IsStillEmpty old left
  empty_before (left.Files now) still = λ image may. was_left image (still image may)
  empty_before (left.Unopened now) still = λ image may. elim (still image may) [
    | inl was ↦ inl (was_left image was)
    | inr begun ↦ inr begun
  ]
  empty_before (left.Store now) still = still

  kept_before : (size : _) (image : Image) → IsKept g new size image → IsKept g old size image
  kept_before size image kept = record {
    same = elim kept.same [
      | inl was ↦ inl (was_left image was)
      | inr stands ↦ inr (subst (λ i. StandsAs size i image) same stands)
    ];
    unread = λ unread. was_left image (kept.unread (subst (IsUnreadable size) (sym same) unread));
    something = λ new. kept.something (λ was. new (was_left image was));
  }

  files_before : (left : Leftover D g) → LeavesFiles new left → LeavesFiles old left
  files_before (left.Files now) leaves = λ image may. was_left image (leaves image may)
  files_before (left.Unopened now) leaves = elim leaves [
    | inl nothing ↦ inl (
      subst IsNothing same nothing.0,
      λ image may. elim (nothing.1 image may) [
        | inl was ↦ inl (was_left image was)
        | inr way ↦ inr way
      ],
    )
    | inr it ↦ inr (
      subst (λ i. ¬ IsNothing i) same it.0,
      subst (λ i. NamesSize i (stored_size (state_of now).page_size)) same it.1,
      subst (BeginsWell (stored_size (state_of now).page_size)) same it.2,
      (λ sums. subst (SaysSums (stored_size (state_of now).page_size)) same (it.3 sums)),
      λ image may. kept_before _ image (it.4 image may),
    )
  ]
  files_before (left.Store now) leaves = λ found may.
      let was = leaves found may in (
        subst (λ i. AreFoundIn i found) same was.0,
        λ it held. was.1 it (subst (λ i. HoldsDatabase i it) (sym same) held),
      )

  pub leaves_before : (left : Leftover D g) → Leaves new left → Leaves old left
  leaves_before left (inl empty) = inl (subst IsBlank same empty.0, empty_before left empty.1)
  leaves_before left (inr leaves) = inr (files_before left leaves)
