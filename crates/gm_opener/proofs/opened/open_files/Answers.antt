use Rattle.std.proofs.Common.{Result, Ok, Err, IfOk, sym, subst, inl, inr}
use Rattle.std.proofs.lemmas.Result.{IfOk-weaker, IfErr-weaker}
use Rattle.gm_opener.proofs.Before.{finds_before, leaves_before}
use Rattle.gm_opener.specs.Opened.{IsBlank, IsMadeIn, IsReady, Leaves, Takes}
use Rattle.sqlite.proofs.FileLemmas.{same_image}
use Rattle.sqlite.specs.Files.{file_state, Finds, IsCleanLeft, IsOpened, LeavesFiles}
use Rattle.sqlite.specs.Held.{IsNew}
use Rattle.sqlite.specs.State.{HasCleanDisk}
use Rattle.sqlite_wal.proofs.CleanLemmas.{both_clean}
use Rattle.gm_opener.proofs.opened.open_files.Goals as goal

all_three : {T E : Type 0} (r : Result T E) (P Q R All : T → Type 0)
    → ((it : T) → P it → Q it → R it → All it) → IfOk r P → IfOk r Q → IfOk r R → IfOk r All
all_three (Ok it) P Q R All all p q r = all it p q r
all_three (Err e) P Q R All all p q r = tt

pub make-requires-clause-blank : goal.make-requires-clause-blank
make-requires-clause-blank g c clean =
    let was = same_image c.is_blank.ensures.log c.is_blank.ensures.db in
    subst IsBlank (sym was) ((c.in-Ok-true.ensures.blank clean).0 c.in-Ok-true.field-0-test)

pub returns-in-Ok-true-clause-found : goal.returns-in-Ok-true-clause-found
returns-in-Ok-true-clause-found g c =
    let read = c.is_blank.ensures in
    IfOk-weaker c.make.result
    (λ it. HasCleanDisk (file_state it) → IsMadeIn c.is_blank.new.files it)
    (λ it. HasCleanDisk (file_state it) → Takes c.args.files it)
    (λ it made now. inl (record {
      clean = both_clean _ _ _ _ read.log.clean read.db.clean (made now).clean;
      blank = subst IsBlank (same_image read.log read.db) (made now).blank;
      empty = (made now).empty;
    })) c.make.ensures.made

pub returns-in-Ok-true-clause-unharmed : goal.returns-in-Ok-true-clause-unharmed
returns-in-Ok-true-clause-unharmed g c =
    let read = c.is_blank.ensures in
    IfErr-weaker c.make.result (λ e. IsCleanLeft e.1 → Leaves c.is_blank.new.files e.1)
    (λ e. IsCleanLeft e.1 → Leaves c.args.files e.1)
    (λ e leaves clean. leaves_before _ _ read.log read.db e.1 (leaves clean)) c.make.ensures.unharmed

pub returns-in-Ok-false-clause-ready : goal.returns-in-Ok-false-clause-ready
returns-in-Ok-false-clause-ready g c =
    let it = c.open_files.ensures in
    all_three c.open_files.result (λ it. HasCleanDisk (file_state it) → IsOpened it)
    (λ it. HasCleanDisk (file_state it) → (file_state it).IsShielded) IsNew IsReady
    (λ it opened guarded fresh. record { opened = opened; guarded = guarded; fresh = fresh })
    it.opened it.guarded it.fresh

pub returns-in-Ok-false-clause-found : goal.returns-in-Ok-false-clause-found
returns-in-Ok-false-clause-found g c =
    let read = c.is_blank.ensures in
    IfOk-weaker c.open_files.result
    (λ it. HasCleanDisk (file_state it) → Finds c.is_blank.new.files it)
    (λ it. HasCleanDisk (file_state it) → Takes c.args.files it)
    (λ it found now. inr (finds_before _ _ read.log read.db it (found now)))
    c.open_files.ensures.found

pub returns-in-Ok-false-clause-unharmed : goal.returns-in-Ok-false-clause-unharmed
returns-in-Ok-false-clause-unharmed g c =
    let read = c.is_blank.ensures in
    IfErr-weaker c.open_files.result
    (λ e. IsCleanLeft e.1 → LeavesFiles c.is_blank.new.files e.1)
    (λ e. IsCleanLeft e.1 → Leaves c.args.files e.1)
    (λ e leaves clean. leaves_before _ _ read.log read.db e.1 (inr (leaves clean)))
    c.open_files.ensures.unharmed
