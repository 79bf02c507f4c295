-- A loss that is committed is ready to be carried out; and one that wasn't leaves what was.
use Rattle.gm_bench.proofs.Common.{◌≡◌, inl, inr, ℕ, List, [], None, refl, sym, ap, subst, Ghosts, Trees, Held, Image, IsLawful, Call, Intent, Records, World, Tables, CrashLeaves, CrashLeavesOnly, DiskKept, HasTables, LeavesNothingNew, Loss, AllLead, first_absent, Cover, IsAt, IsFound, LeavesOnly, LeavesCommit, Carries, Commits, DoesLoss, HasJudged, IsJudged, IsLost, LeavesLoss, LeavesOpened, loss_call}
use Rattle.gm_shelf.specs.declared.shelf.Shelf.{Ghosts as ShelfGhosts}
use Rattle.gm_bench.specs.declared.loss.Judged.TheVariants.{New}
use Rattle.gm_bench.specs.declared.take_up_without.Looked.{Looked}
use Rattle.gm_bench.specs.Without.{IsLooked}
use Rattle.gm_bench.proofs.Found.{covered, ready}
use Rattle.gm_bench.proofs.RegistryLeaves.{leads_in, read_only}
use Rattle.gm_bench.proofs.TakenUp.{absent_back, leaves_back, moved}

module _ {S H : Type 0} (g : Ghosts S) (j : ShelfGhosts H) where
  -- what was looked for was judged to be a loss
  pub judged_new : (r : Held S) (h : H) (key p : List ℕ) (looked : Looked) (loss : Loss)
      (away : Image) (ts : List Intent) (bytes : List (List ℕ)) (u w : World)
      → looked.judged ≡ New loss → IsLooked g j r h key p looked away ts bytes u w
      → HasJudged g j r h key p loss away ts bytes u w
  judged_new r h key p looked loss away ts bytes u w is was = record {
    found = was.found;
    judged = subst (IsJudged w ts bytes key p) is was.judged;
  }

  -- nothing was written
  pub not_committed : (r s : Held S) (h : H) (away : Image) (ts : List Intent)
      (bytes : List (List ℕ)) (u w : World)
      → IsLawful (j.view h) → (at : IsFound g j r h away ts bytes u w)
      → CrashLeavesOnly g r at.tables → ((db : Trees) → CrashLeaves g s db → CrashLeaves g r db)
      → (call : Call) (p : List ℕ) (gone : List Intent)
      → LeavesCommit g j r s h away u w call p gone
  not_committed r s h away ts bytes u w lawful at only left call p gone = record {
    within = leads_in g j r h away at.tables ts bytes u w only
        ((j.view h).left_since (j.view h).moment) (λ x l. at.leads x (lawful.only_now x l));
    end = λ db l. inl (leads_in g j r h away at.tables ts bytes u w only (j.view h).may_leave
        at.leads db (left db l));
  }

  module _ (r : Held S) (h k : H) (away : Image) (loss : Loss) (key p : List ℕ) (ts : List Intent)
      (u w : World) (n : ℕ) (lawful : IsLawful (j.view h)) (same : k ≡ h)
      (it : IsLost g j r h away loss key p ts u w n)
      (none : first_absent loss.after (j.size h) loss.intents.items ≡ None) (items : List Intent)
      (are : items ≡ loss.intents.items) (laid : List (List ℕ))
      (laid_are : laid ≡ loss.bytes.items) where
    abbrev found : IsFound g j r k away items laid u it.0
    found = moved g j r r h k away loss.intents.items loss.bytes.items u it.0 it.6 same
        items are laid laid_are it.6.has

    lawful_still : IsLawful (j.view k)
    lawful_still = subst (λ (x : H). IsLawful (j.view x)) (sym same) lawful

    at_hand : IsAt g j r k away items laid u it.0
    at_hand = ready g j r k away items laid u it.0 found lawful_still loss.after it.5
        (absent_back loss.after loss.after (j.size h) (j.size k) loss.intents.items items None refl
        (sym (ap j.size same)) (sym are) none)

    covers : Cover loss.after it.0.state items
    covers = covered g j r k away items laid u it.0 found lawful_still loss.after it.5

  -- a loss that was judged over r and h, and committed, is finished over mid and k
  module _ (r mid s : Held S) (h k l : H) (loss : Loss) (key p : List ℕ) (n : ℕ)
      (lawful : IsLawful (j.view h)) (same : k ≡ h)
      (none : first_absent loss.after (j.size h) loss.intents.items ≡ None) (items : List Intent)
      (are : items ≡ loss.intents.items) (laid : List (List ℕ)) (laid_are : laid ≡ loss.bytes.items)
      (lost : (away : Image) (ts : List Intent) (bytes : List (List ℕ)) (u w : World)
      → HasJudged g j r h key p loss away ts bytes u w
      → IsLost g j mid h away loss key p ts u w n) where
    pub carries_lost : ((away : Image) (u w : World) → IsAt g j mid k away items laid u w
        → Cover loss.after w.state items → LeavesOnly g j mid s k l away u w)
        → Carries g j (HasJudged g j r h key p loss) (loss_call key loss.mirror p) p mid s h l
    carries_lost leaves away ts bytes u w was =
        let it = lost away ts bytes u w was in (
          it.0,
          it.1,
          it.4,
          subst (λ (x : H). LeavesOnly g j mid s x l away u it.0) same
              (leaves away u it.0
              (at_hand mid h k away loss key p ts u w n lawful same it none items are laid laid_are)
              (covers mid h k away loss key p ts u w n lawful same it none items are laid
              laid_are)),
        )

    pub does_lost : ((away : Image) (u w : World) → IsAt g j mid k away items laid u w
        → Cover loss.after w.state items → IsAt g j s l away [] [] w w)
        → DoesLoss g j (HasJudged g j r h key p loss) (loss_call key loss.mirror p) p s l n
        loss.change.reply
    does_lost done away ts bytes u w was =
        let it = lost away ts bytes u w was in (
          it.0,
          it.1,
          it.2,
          it.3,
          done away u it.0
              (at_hand mid h k away loss key p ts u w n lawful same it none items are laid laid_are)
              (covers mid h k away loss key p ts u w n lawful same it none items are laid laid_are),
        )

-- after a load and a look at the registry, which leave the shelf
module _ {S H : Type 0} (g : Ghosts S) (j : ShelfGhosts H) (r mid : Held S)
    (h k : H) (same : k ≡ h) (lawful : IsLawful (j.view h))
    (only : (t : Tables) → HasTables g r t → CrashLeavesOnly g r t) where
  pub nothing_opened : (key p : List ℕ) → DiskKept g mid
      → ((t : Tables) → HasTables g r t → LeavesNothingNew g r mid)
      → LeavesOpened g j key p r mid h k
  nothing_opened key p clean left away ts bytes u w at =
      subst (λ (x : H). LeavesOnly g j r mid h x away u w) (sym same)
      (read_only g j r mid h h away at.tables ts bytes u w (only at.tables at.has) clean
      (left at.tables at.has) (λ x l. at.leads x (lawful.only_now x l)) at.leads)

  -- what was loaded is carried out over it
  pub finished_opened : (key p : List ℕ) (state : Records) (is : List Intent)
      (laid : List (List ℕ)) (s : Held S) (l : H)
      → ((away : Image) (ts : List Intent) (bytes : List (List ℕ)) (u w : World)
      → (at : IsFound g j r h away ts bytes u w)
      → (state ≡ w.state) × (is ≡ ts) × (laid ≡ bytes) × HasTables g mid at.tables)
      → ((away : Image) (u w : World) → (at : IsFound g j mid k away is laid u w)
      → state ≡ w.state
      → AllLead at.tables is laid (j.size k) away ((j.view l).left_since (j.view k).moment) u w)
      → ((away : Image) (u w : World) → IsFound g j mid k away is laid u w
      → state ≡ w.state → LeavesOnly g j mid s k l away u w)
      → LeavesOpened g j key p r s h l
  finished_opened key p state is laid s l loaded moments leaves away ts bytes u w at =
      let was = loaded away ts bytes u w at in
      let found = moved g j r mid h k away ts bytes u w at same is was.1 laid was.2 was.3 in
      leaves_back g j r mid h k away ts bytes u w at same is was.1 laid was.2 s l
      (only at.tables at.has) (moments away u w found was.0) (leaves away u w found was.0)

  pub lost_behind : (B : Image → List Intent → List (List ℕ) → World → World → Type 0) (call : Call)
      (p : List ℕ)
      → ((away : Image) (ts : List Intent) (bytes : List (List ℕ)) (u w : World)
      → IsFound g j r h away ts bytes u w
      → B away ts bytes u w) → (s : Held S) (l : H) → LeavesLoss g j B call p mid s k l
      → LeavesLoss g j (IsFound g j r h) call p r s h l
  lost_behind B call p so s l leaves =
      let here : LeavesLoss g j B call p mid s h l =
      subst (λ (x : H). LeavesLoss g j B call p mid s x l) same leaves in
      let began : (m : Held S) → Commits g j B call p mid m h
      → Commits g j (IsFound g j r h) call p r m h =
      λ m commits away ts bytes u w at. record {
        within = leads_in g j r h away at.tables ts bytes u w (only at.tables at.has)
            ((j.view h).left_since (j.view h).moment) (λ x l. at.leads x (lawful.only_now x l));
        end = (commits away ts bytes u w (so away ts bytes u w at)).end;
      } in
      elim here [
        | inl was ↦ inl (began s was.0, was.1)
        | inr is ↦ inr (
          is.0,
          began is.0 is.1,
          λ away ts bytes u w at. is.2 away ts bytes u w (so away ts bytes u w at),
        )
      ]
