-- What is found if all is well: nothing.
use Rattle.std.proofs.Common.{◌≡◌, ◌∙◌, inl, inr, ℕ, ◌<◌, ◌-◌, ◌==◌, Bool, true, refl, sym, arith, List, [], ◌∷◌, filter, length, map, Some, None, eq-eqb, if◌then◌else◌}
use Rattle.std.specs.List.{count_by, list_all}
use Rattle.std.specs.Option.{option_and_then}
use Rattle.std.proofs.lemmas.Bool.{ne_eqb}
use Rattle.std.proofs.lemmas.List.Sums.{length-filter}
use Rattle.gm_metadata.specs.Images.{Image, Sizes}
use Rattle.gm_lists.specs.Ordered.{Has}
use Rattle.gm_lists.proofs.Sorting.{has_all}
use Rattle.gm_state.specs.declared.records.Mirror.{Mirror}
use Rattle.gm_state.specs.declared.records.Component.{Component}
use Rattle.gm_state.specs.Intents.{IsOf}
use Rattle.gm_state.specs.Lookups.{is_active}
use Rattle.gm_state.specs.Records.{Records, IsState, members}
use Rattle.gm_looks.specs.Audits.{IsAsRegistered}
use Rattle.gm_looks.specs.Scrubs.{HasFlaw, IsScrub}
use Rattle.gm_looks.specs.Standings.{IsOfComponent}
use Rattle.gm_looks.specs.Unlikes.{IsUnlike, is_meant}
use Rattle.gm_looks.specs.declared.scrub.Flaw.{Flaw}
use Rattle.gm_looks.specs.declared.scrub.Flaw.TheVariants.{Uncompared, Differs}
use Rattle.gm_looks.specs.declared.scrub.Scrubbed.{Scrubbed}
use Rattle.gm_looks.specs.declared.standing.Standing.{Standing}
use Rattle.gm_looks.specs.declared.standing.Standing.TheVariants.{AsRegistered}
use Rattle.gm_looks.specs.declared.unlike.Meant.TheVariants.{All}
use Rattle.gm_looks.specs.declared.unlike.Unlike.{Unlike}
use Rattle.gm_unlike.specs.Checkups.{is_complete_in}

-- none were mapped if none is there
pub none_mapped : {X Y : Type 0} (f : X → Y) (xs : List X) → map f xs ≡ [] → xs ≡ []
none_mapped f [] e = refl
none_mapped f (x ∷ xs) e = let no : ⊥ = cc in absurd no

-- as many pass as there are if each passes
all_pass : {X : Type 0} (p : X → Bool) (xs : List X) → ((x : X) → Has xs x → p x ≡ true)
    → length (filter p xs) ≡ length xs
all_pass p [] each = refl
all_pass p (y ∷ ys) each =
    let more = all_pass p ys (λ x h. each x (inr h)) in
    rw (each y (inl refl)) (omega arith)

-- ---- a mirror whose components are all there and ACTIVE

pub complete : (s : Records)
    → ((m : Mirror) → Has s.mirrors m → length (members s.components m.name) ≡ m.all)
    → ((m : Mirror) (k : Component) → IsOf s m k → is_active k.disk ≡ true)
    → list_all (is_complete_in s) s.mirrors ≡ true
complete s there active =
    has_all (is_complete_in s) s.mirrors (λ m has.
    let ks = members s.components m.name in
    let p = λ (k : Component). is_active k.disk in
    let pass = all_pass p ks
    (λ k h. active m k (record { mirror = has; component = h })) in
    let are = length-filter p ks in
    let all = there m has in
    let same : (count_by p ks == m.all) ≡ true = eq-eqb (count_by p ks) m.all (omega arith) in
    rw same refl)

-- ---- the images

-- it stands as registered, and no other way
stands : (size : Sizes) (seen : Image) (m : Mirror) (k : Component) (standing : Standing)
    → 0 < k.sectors → IsAsRegistered size seen m k → IsOfComponent size seen m k standing
    → standing ≡ AsRegistered
stands size seen m k standing some is (inl registered) = registered.1
stands size seen m k standing some is (inr (inl absent)) =
    let there = ne_eqb k.sectors 0 (λ e. omega arith) in
    let none : option_and_then (λ n. if n == 0 then None else Some (seen k.provider (n - 1)))
    (Some k.sectors) ≡ None = rw is.size_is at absent.0 in
    let other : Some (seen k.provider (k.sectors - 1)) ≡ None = rw there at none in
    cc
stands size seen m k standing some is (inr (inr (inl another))) =
    let same : Some another.0.sectors ≡ Some k.sectors = sym another.0.size_is ∙ is.size_is in
    let one : another.0.sectors ≡ k.sectors = cc in
    absurd (another.0.other one)
stands size seen m k standing some is (inr (inr (inr shows))) =
    absurd (shows.1.other (sym shows.1.last_is ∙ is.last_is))

pub none_unlike : (s : Records) (size : Sizes) (seen : Image) (list : List Unlike) → IsState s
    → ((m : Mirror) (k : Component) → IsOf s m k → IsAsRegistered size seen m k)
    → IsUnlike (is_meant All) s size seen list → list ≡ []
none_unlike s size seen [] state images unlike = refl
none_unlike s size seen (e ∷ es) state images unlike =
    let told = unlike.told e (inl refl) in
    let m = told.0 in
    let k = told.1 in
    let large = (state.each m told.2.mirror).sizes k told.2.component in
    absurd (told.4.other (stands size seen m k e.standing (omega arith) (images m k told.2)
    told.4.stands))

-- ---- the data

no_flaw : (size : Sizes) (seen : Image) (m : Mirror) (k a : Component) (flaw : Flaw)
    → IsAsRegistered size seen m k → IsAsRegistered size seen m a
    → ((i : ℕ) → i < m.data_sectors → seen a.provider i ≡ seen k.provider i)
    → HasFlaw size seen m k a flaw → ⊥
no_flaw size seen m k a Uncompared of_k of_a same has =
    has (record { component = of_k.size_is; source = of_a.size_is })
no_flaw size seen m k a (Differs sectors first) of_k of_a same has =
    has.by.first has.within (same first has.within)

pub none_differ : (s : Records) (size : Sizes) (seen : Image) (list : List Scrubbed)
    → ((m : Mirror) (k : Component) → IsOf s m k → IsAsRegistered size seen m k)
    → ((m : Mirror) (j k : Component) → IsOf s m j → IsOf s m k
    → (i : ℕ) → i < m.data_sectors → seen j.provider i ≡ seen k.provider i)
    → IsScrub s size seen None list → list ≡ []
none_differ s size seen [] images equal scrub = refl
none_differ s size seen (e ∷ es) images equal scrub =
    let told = scrub.amiss e (inl refl) in
    let m = told.0 in
    let k = told.1 in
    let source = told.5.0 in
    let of_k = told.2.of in
    let of_a = told.5.1.0.of in
    absurd (no_flaw size seen m k source e.flaw (images m k of_k) (images m source of_a)
    (equal m source k of_a of_k) told.5.2)
