-- Which texts are targets of mirrors and providers.
use Rattle.gm_http.proofs.Common.{◌≡◌, ◌∙◌, ◌-◌, ℕ, true, refl, sym, ap, arith, List, [], ◌++◌, length, take, Option, Some, None, IsTrue, codes, nat_eq, append-nil, length-append, option_and_then, option_map, if◌then◌else◌, starts_with, ends_with, drop-append_seam, take-append_seam, cases_Bool, Decides-eqb, starts_is, ends_is, is_label, Route, before, behind, named_on, routes}
use mathlib.Core.Logic.{⊎_elim}
use Rattle.matchit.specs.Route.{scan}
use Rattle.gm_http.specs.declared.routes.Route.TheVariants as route
use Rattle.gm_http.specs.declared.routes.Target.TheVariants as target
use Rattle.gm_http.specs.Routes.{label_between, route_of, target_of}
use Rattle.gm_http.proofs.Walks.{label_letters, seek_end, seek_label, seek_label_before, segment_label, walk}

-- ---- what stands between a beginning and an end

behind_front : (front part : List ℕ) → behind front (front ++ part) ≡ Some part
behind_front front part =
    let begins : starts_with nat_eq (front ++ part) front ≡ true =
    (starts_is Decides-eqb (front ++ part) front _ refl).1 part refl in
    rw begins (ap Some (drop-append_seam front part))

before_back : (part back : List ℕ) → before back (part ++ back) ≡ Some part
before_back part back =
    let ends : ends_with nat_eq (part ++ back) back ≡ true =
    (ends_is Decides-eqb (part ++ back) back _ refl).1 part refl in
    let front : length (part ++ back) - length back ≡ length part =
    rw length-append (omega arith) in
    rw ends (ap Some (ap (λ n. take n (part ++ back)) front ∙ take-append_seam part back))

label_stands : (front name back : List ℕ) → is_label name ≡ true
    → label_between front back (front ++ (name ++ back)) ≡ Some name
unfolding label_between
label_stands front name back h = simp (behind_front front (name ++ back), before_back name back, h)

some_is : {A : Type 0} (x y : A) → Some x ≡ Some y → x ≡ y
some_is x y e = cc

and_then_tells : {A B : Type 0} (f : A → Option B) (o : Option A) (y : B)
    → option_and_then f o ≡ Some y → (x : A) × (o ≡ Some x) × (f x ≡ Some y)
and_then_tells f None y h = absurd (cc)
and_then_tells f (Some x) y h = (x, refl, h)

behind_tells : (front text part : List ℕ) → behind front text ≡ Some part → text ≡ front ++ part
behind_tells front text part h =
    ⊎_elim (λ e. let same = some_is _ _ (rw e at h) in
    (starts_is Decides-eqb text front _ refl).0 e ∙ ap (λ l. front ++ l) same)
    (λ e. let none = rw e at h in absurd (cc none)) (cases_Bool (starts_with nat_eq text front))

before_tells : (back text part : List ℕ) → before back text ≡ Some part → text ≡ part ++ back
before_tells back text part h =
    ⊎_elim (λ e. let same = some_is _ _ (rw e at h) in
    (ends_is Decides-eqb text back _ refl).0 e ∙ ap (λ l. l ++ back) same)
    (λ e. let none = rw e at h in absurd (cc none)) (cases_Bool (ends_with nat_eq text back))

label_tells : (part name : List ℕ) → (if is_label part then Some part else None) ≡ Some name
    → (part ≡ name) × (is_label name ≡ true)
label_tells part name h =
    ⊎_elim (λ e. let same = some_is _ _ (rw e at h) in (same, ap is_label (sym same) ∙ e))
    (λ e. let none = rw e at h in absurd (cc none)) (cases_Bool (is_label part))

between_tells : (front back text name : List ℕ) → label_between front back text ≡ Some name
    → (text ≡ front ++ (name ++ back)) × (is_label name ≡ true)
unfolding label_between
between_tells front back text name h =
    let a = and_then_tells _ _ _ h in
    let b = and_then_tells _ _ _ a.1 in
    let label = label_tells a.0 name a.2 in (
      behind_tells front text b.0 b.1
          ∙ ap (λ l. front ++ l) (before_tells back b.0 a.0 b.2 ∙ ap (λ l. l ++ back) label.0),
      label.1,
    )

-- ---- the routes

status_route : route_of (codes "/status") ≡ Some route.Status
unfolding route_of scan
status_route = ap (option_map (λ r. r.value)) (seek_end (codes "/status") routes _ refl refl)

commands_route : route_of (codes "/commands") ≡ Some route.Commands
unfolding route_of scan
commands_route = ap (option_map (λ r. r.value)) (seek_end (codes "/commands") routes _ refl refl)

mirror_route : (name : List ℕ) → is_label name ≡ true
    → route_of (codes "/mirrors/" ++ name) ≡ Some route.Mirror
unfolding route_of scan
mirror_route name h =
    ap (option_map (λ r. r.value)) (walk (codes "/mirrors/") name routes refl ∙ seek_label _ name h)

metadata_route : (name : List ℕ) → is_label name ≡ true
    → route_of (codes "/providers/" ++ (name ++ codes "/metadata")) ≡ Some route.Metadata
unfolding route_of scan
metadata_route name h =
    ap (option_map (λ r. r.value))
    (walk (codes "/providers/") (name ++ codes "/metadata") routes refl
    ∙ seek_label_before _ name (codes "/metadata") h refl
    (segment_label name (codes "metadata") (label_letters name h))
    (seek_end (codes "/metadata") _ _ refl refl))

-- ---- the targets

pub status_target : target_of (codes "/status") ≡ Some target.Status
unfolding target_of
status_target = rw status_route refl

pub commands_target : target_of (codes "/commands") ≡ Some target.Commands
unfolding target_of
commands_target = rw commands_route refl

pub mirror_target : (name : List ℕ) → IsTrue (is_label name)
    → target_of (codes "/mirrors/" ++ name) ≡ Some (target.Mirror name)
unfolding target_of
mirror_target name h =
    let label : label_between (codes "/mirrors/") [] (codes "/mirrors/" ++ name) ≡ Some name =
    ap (λ l. label_between (codes "/mirrors/") [] (codes "/mirrors/" ++ l)) (sym (append-nil name))
    ∙ label_stands (codes "/mirrors/") name [] h in
    ap (option_and_then (λ r. named_on r (codes "/mirrors/" ++ name))) (mirror_route name h)
    ∙ ap (option_map target.Mirror) label

pub metadata_target : (name : List ℕ) → IsTrue (is_label name)
    → target_of (codes "/providers/" ++ (name ++ codes "/metadata")) ≡ Some (target.Metadata name)
unfolding target_of
metadata_target name h =
    let text = codes "/providers/" ++ (name ++ codes "/metadata") in
    ap (option_and_then (λ r. named_on r text)) (metadata_route name h)
    ∙ ap (option_map target.Metadata)
    (label_stands (codes "/providers/") name (codes "/metadata") h)

mirror_is : (o : Option (List ℕ)) (name : List ℕ)
    → option_map target.Mirror o ≡ Some (target.Mirror name) → o ≡ Some name
mirror_is None name h = absurd (cc)
mirror_is (Some x) name h = cc

metadata_is : (o : Option (List ℕ)) (name : List ℕ)
    → option_map target.Metadata o ≡ Some (target.Metadata name) → o ≡ Some name
metadata_is None name h = absurd (cc)
metadata_is (Some x) name h = cc

not_mirror : (o : Option (List ℕ)) (name : List ℕ)
    → option_map target.Metadata o ≡ Some (target.Mirror name) → ⊥
not_mirror None name h = cc
not_mirror (Some x) name h = cc

not_metadata : (o : Option (List ℕ)) (name : List ℕ)
    → option_map target.Mirror o ≡ Some (target.Metadata name) → ⊥
not_metadata None name h = cc
not_metadata (Some x) name h = cc

mirror_on : (r : Route) (text name : List ℕ) → named_on r text ≡ Some (target.Mirror name)
    → (text ≡ codes "/mirrors/" ++ name) × IsTrue (is_label name)
mirror_on route.Status text name h = absurd (cc)
mirror_on route.Commands text name h = absurd (cc)
mirror_on route.Metadata text name h = absurd (not_mirror _ name h)
mirror_on route.Mirror text name h =
    let told = between_tells (codes "/mirrors/") [] text name (mirror_is _ name h) in
    (told.0 ∙ ap (λ l. codes "/mirrors/" ++ l) (append-nil name), told.1)

metadata_on : (r : Route) (text name : List ℕ) → named_on r text ≡ Some (target.Metadata name)
    → (text ≡ codes "/providers/" ++ (name ++ codes "/metadata")) × IsTrue (is_label name)
metadata_on route.Status text name h = absurd (cc)
metadata_on route.Commands text name h = absurd (cc)
metadata_on route.Mirror text name h = absurd (not_metadata _ name h)
metadata_on route.Metadata text name h =
    between_tells (codes "/providers/") (codes "/metadata") text name (metadata_is _ name h)

pub only_mirrors : (text name : List ℕ) → target_of text ≡ Some (target.Mirror name)
    → (text ≡ codes "/mirrors/" ++ name) × IsTrue (is_label name)
unfolding target_of
only_mirrors text name h =
    let on = and_then_tells (λ r. named_on r text) (route_of text) (target.Mirror name) h in
    mirror_on on.0 text name on.2

pub only_metadata : (text name : List ℕ) → target_of text ≡ Some (target.Metadata name)
    → (text ≡ codes "/providers/" ++ (name ++ codes "/metadata")) × IsTrue (is_label name)
unfolding target_of
only_metadata text name h =
    let on = and_then_tells (λ r. named_on r text) (route_of text) (target.Metadata name) h in
    metadata_on on.0 text name on.2
