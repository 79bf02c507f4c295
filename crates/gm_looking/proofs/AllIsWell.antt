-- A check's status is 0 just if all is well.
use Rattle.std.proofs.Common.{◌≡◌, ◌∙◌, inl, inr, ℕ, ◌<◌, ◌==◌, ◌&&◌, nat_lt, not, Bool, true, false, refl, sym, ap, subst, arith, List, [], ◌∷◌, None, length, ltb-true, map, true≢false}
use Rattle.std.specs.List.{list_all}
use Rattle.std.proofs.lemmas.Bool.{cases_Bool, and_parts, lt-ltb, ne_eqb}
use Rattle.gm_lists.specs.Ordered.{Has}
use Rattle.gm_metadata.specs.Images.{Image, Sizes}
use Rattle.gm_state.specs.Records.{Records, IsState}
use Rattle.gm_state.specs.declared.intents.Intent.{Intent}
use Rattle.gm_looks.specs.Scrubs.{IsScrub}
use Rattle.gm_looks.specs.Unlikes.{IsUnlike, is_meant}
use Rattle.gm_looks.specs.declared.unlike.Meant.TheVariants.{All}
use Rattle.gm_looks.specs.declared.unlike.Unlike.{Unlike}
use Rattle.gm_unlike.proofs.Registered.{all_given_up, none_claim}
use Rattle.gm_unlike.specs.Checkups.{has_its_images, has_its_mirrors, is_complete_in, is_well}
use Rattle.gm_unlike.specs.Unequals.{scrubbed}
use Rattle.gm_unlike.specs.declared.claims.Claim.{Claim}
use Rattle.gm_unlike.specs.declared.unequal.Unequal.{Unequal}
use Rattle.gm_command_line.specs.declared.job.Checking.{Checking}
use Rattle.gm_process.specs.Statuses.{status_of_refused}
use Rattle.gm_process.specs.declared.status.Status.TheVariants.{Done, Refused}
use Rattle.gm_registry_files.specs.declared.unopened.Whole.{Whole}
use Rattle.gm_reports.specs.declared.report.Report.{Report}
use Rattle.gm_looking.specs.AllWell.{IsAllWell}
use Rattle.gm_looking.specs.Checks.{IsCheckOf}
use Rattle.gm_looking.proofs.NothingAmiss.{all_there, as_registered, empty, equal_data}
use Rattle.gm_looking.proofs.NothingFound.{complete, none_differ, none_mapped, none_unlike}

well_of : (b : Bool) → status_of_refused (not b) ≡ Done → b ≡ true
well_of true e = refl
well_of false e = let other : Refused ≡ Done = e in cc

-- there is one in a list that isn't empty
some_one : {X : Type 0} (xs : List X) → not (length xs == 0) ≡ true → (x : X) × Has xs x
some_one [] e = let no : false ≡ true = e in absurd (true≢false (sym no))
some_one (x ∷ xs) e = (x, inl refl)

not_empty : {X : Type 0} (xs : List X) (x : X) → Has xs x → not (length xs == 0) ≡ true
not_empty [] x h = absurd h
not_empty (y ∷ ys) x h =
    let some : (length (y ∷ ys) == 0) ≡ false = ne_eqb (length (y ∷ ys)) 0 (λ e. omega arith) in
    rw some refl

pub all_is_well : (checking : Checking) (whole : Whole) (bytes : ℕ) (size : Sizes) (seen : Image)
    (report : Report) → IsState whole.loaded.state
    → IsCheckOf checking whole bytes size seen report → report.status ≡ Done
    → IsAllWell checking whole size seen
all_is_well checking whole bytes size seen report state of done =
    let found = of.found in
    let s = whole.loaded.state in
    let t = found.state.now in
    let complete_all = list_all (is_complete_in t) t.mirrors in
    let given = list_all (λ (c : Claim). c.is_given_up) found.claims.now in
    let is = well_of (is_well found) (sym of.told.status ∙ done) in
    let first = and_parts (found.pending == 0)
    (has_its_images found && (nat_lt found.commands 95000 && has_its_mirrors t)) is in
    let second = and_parts (has_its_images found)
    (nat_lt found.commands 95000 && has_its_mirrors t) first.1 in
    let images = and_parts (length found.unlike.now == 0)
    ((length found.flaws.now == 0) && given) second.0 in
    let data_of = and_parts (length found.flaws.now == 0) given images.1 in
    let third = and_parts (nat_lt found.commands 95000) (has_its_mirrors t) second.1 in
    let mirrors = and_parts (not (length t.mirrors == 0)) complete_all third.1 in
    let complete : list_all (is_complete_in s) s.mirrors ≡ true =
    subst (λ (r : Records). list_all (is_complete_in r) r.mirrors ≡ true) of.state mirrors.1 in
    let some : not (length s.mirrors == 0) ≡ true =
    subst (λ (r : Records). not (length r.mirrors == 0) ≡ true) of.state mirrors.0 in
    let there = all_there s state complete in
    let unlike : IsUnlike (is_meant All) s size seen [] =
    subst (λ (l : List Unlike). IsUnlike (is_meant All) s size seen l)
    (empty found.unlike.now images.0) of.amiss.unlike in
    record {
      some_mirror = some_one s.mirrors some;
      room = subst (λ (n : ℕ). n < 95000) of.commands (ltb-true found.commands 95000 third.0);
      nothing_pending = empty whole.loaded.intents.items
          (sym (ap (λ (n : ℕ). n == 0) of.pending) ∙ first.0);
      none_missing = λ m has. (there m has).0;
      active = λ m k is_of. (there m is_of.mirror).1 k is_of.component;
      images = as_registered s size seen unlike;
      no_claims = none_claim s size seen found.claims.now state of.amiss.claims_are data_of.1;
      equal_data = λ compares m j k of_j of_k.
          equal_data s size seen
          (subst (λ (l : List Unequal). IsScrub s size seen None (map scrubbed l))
          (empty found.flaws.now data_of.0) (of.amiss.compared compares)) m j k
          (record { of = of_j; active = (there m of_j.mirror).1 j of_j.component })
          (record { of = of_k; active = (there m of_k.mirror).1 k of_k.component });
    }

pub done_if_well : (checking : Checking) (whole : Whole) (bytes : ℕ) (size : Sizes) (seen : Image)
    (report : Report) → IsState whole.loaded.state
    → IsCheckOf checking whole bytes size seen report → IsAllWell checking whole size seen
    → report.status ≡ Done
done_if_well checking whole bytes size seen report state of well =
    let found = of.found in
    let s = whole.loaded.state in
    let pending : found.pending ≡ 0 =
    of.pending ∙ ap (λ (ts : List Intent). length ts) well.nothing_pending in
    let unlike = none_unlike s size seen found.unlike.now state well.images of.amiss.unlike in
    let flaws : found.flaws.now ≡ [] = elim (cases_Bool checking.compares) [
      | inl asked ↦ none_mapped scrubbed found.flaws.now
          (none_differ s size seen (map scrubbed found.flaws.now) well.images
          (well.equal_data asked) (of.amiss.compared asked))
      | inr unasked ↦ of.amiss.unasked unasked
    ] in
    let given = all_given_up s size seen found.claims.now state of.amiss.claims_are
    well.no_claims in
    let room : nat_lt found.commands 95000 ≡ true =
    ap (λ (n : ℕ). nat_lt n 95000) of.commands ∙ lt-ltb whole.accepted 95000 well.room in
    let some : not (length found.state.now.mirrors == 0) ≡ true =
    subst (λ (r : Records). not (length r.mirrors == 0) ≡ true) (sym of.state)
    (not_empty s.mirrors well.some_mirror.0 well.some_mirror.1) in
    let all : list_all (is_complete_in found.state.now) found.state.now.mirrors ≡ true =
    subst (λ (r : Records). list_all (is_complete_in r) r.mirrors ≡ true) (sym of.state)
    (complete s well.none_missing well.active) in
    let is : is_well found ≡ true = rw (pending, unlike, flaws, given, room, some, all) refl in
    of.told.status ∙ ap (λ (b : Bool). status_of_refused (not b)) is
