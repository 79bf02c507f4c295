-- No value that is built here has a float.
use Rattle.gm_json.proofs.Common.{◌≡◌, ℕ, Bool, true, false, List, [], ◌∷◌, ◌++◌, Option, Some, None, map, refl, Mirror, disk_flags, Records, members, Data, string, items_of, has_float, items_have_float, audit_data, difference_data, differing, scrub_data, uncompared, check_data, unlike_data, in_the_way_data, withheld_data, not_renewed_data, component_data, mirror_data, standing_component, standing_mirror, status_data, disk_flag_names, held_component, held_data, held_mirror, name_where, shown_component, shown_data, shown_mirror, filled_to, left_data, passed_data, tasted_component, tasted_mirror, tasted_with, tasting_data}
use Rattle.std.specs.Prelude.{codes}
use Rattle.gm_state.specs.declared.records.Component.{Component}
use Rattle.gm_state.specs.declared.records.Disk.{Disk}
use Rattle.gm_state.specs.declared.records.Disk.TheVariants.{InSync, Inactive, Copying}
use Rattle.gm_taste.specs.declared.tasted.Member.{Member}
use Rattle.gm_taste.specs.declared.tasted.Group.{Group}
use Rattle.gm_taste.specs.declared.tasted.Tasted.{Tasted}
use Rattle.gm_shelf.specs.declared.passed_over.PassedOver.{PassedOver}
use Rattle.gm_json.specs.Audits.{equal_to}
use Rattle.gm_json.specs.Checks.{claim_data}
use Rattle.gm_json.specs.declared.audits.Difference.{Difference}
use Rattle.gm_unlike.specs.declared.unequal.Unequal.{Unequal}
use Rattle.gm_unlike.specs.declared.checkup.Checkup.{Checkup}
use Rattle.gm_looks.specs.declared.unlike.Unlike.{Unlike}

-- nor has a list of them
none_of_each : {X : Type 0} (f : X → Data) (xs : List X) → ((x : X) → has_float (f x) ≡ false)
    → items_have_float (items_of (map f xs)) ≡ false
none_of_each f [] none = refl
none_of_each f (x ∷ xs) none = rw (none x) (none_of_each f xs none)

standing_mirror_none : (m : Mirror) (ks : List Component)
    → has_float (standing_mirror m ks) ≡ false
standing_mirror_none m ks = rw (none_of_each (standing_component m) ks (λ k. refl))

pub status_none : (s : Records) → has_float (status_data s) ≡ false
status_none s =
    rw (none_of_each (λ m. standing_mirror m (members s.components m.name)) s.mirrors
    (λ m. standing_mirror_none m (members s.components m.name)))

pub mirror_none : (m : Mirror) (ks : List Component) → has_float (mirror_data m ks) ≡ false
mirror_none m ks = rw (none_of_each (component_data m) ks (λ k. refl))

held_mirror_none : (m : Mirror) (ks : List Component) → has_float (held_mirror m ks) ≡ false
held_mirror_none m ks = rw (none_of_each (held_component m) ks (λ k. refl))

pub held_none : (s : Records) → has_float (held_data s) ≡ false
held_none s =
    rw (none_of_each (λ m. held_mirror m (members s.components m.name)) s.mirrors
    (λ m. held_mirror_none m (members s.components m.name)))

-- nor has a list of the names of flags
two_names_none : (a b : Bool) → items_have_float (items_of
    (name_where a (codes "NOAUTOSYNC") ++ name_where b (codes "NOFAILSYNC"))) ≡ false
two_names_none true true = refl
two_names_none true false = refl
two_names_none false true = refl
two_names_none false false = refl

disk_names_none : (d : Disk)
    → items_have_float (items_of (disk_flag_names (disk_flags d))) ≡ false
disk_names_none InSync = refl
disk_names_none Inactive = refl
disk_names_none (Copying true held) = refl
disk_names_none (Copying false held) = refl

shown_component_none : (m : Mirror) (k : Component) → has_float (shown_component m k) ≡ false
shown_component_none m k = rw (disk_names_none k.disk)

shown_mirror_none : (m : Mirror) (ks : List Component) → has_float (shown_mirror m ks) ≡ false
shown_mirror_none m ks =
    rw (none_of_each (shown_component m) ks (shown_component_none m))
    (rw (two_names_none m.flags.no_autosync m.flags.no_failsync))

pub shown_none : (s : Records) → has_float (shown_data s) ≡ false
shown_none s =
    rw (none_of_each (λ m. shown_mirror m (members s.components m.name)) s.mirrors
    (λ m. shown_mirror_none m (members s.components m.name)))

pub withheld_none : (key : List ℕ) (list : List Unlike)
    → has_float (withheld_data key list) ≡ false
withheld_none key list = rw (none_of_each in_the_way_data list (λ x. refl))

pub not_renewed_none : (list : List Unlike) → has_float (not_renewed_data list) ≡ false
not_renewed_none list = rw (none_of_each in_the_way_data list (λ x. refl))

pub audit_none : (names : List (List ℕ)) → has_float (audit_data names) ≡ false
audit_none names = rw (none_of_each string names (λ name. refl))

difference_none : (ds : List Difference) (d : Difference)
    → has_float (difference_data ds d) ≡ false
difference_none ds d = rw (none_of_each string (equal_to ds d) (λ name. refl))

pub scrub_none : (flaws : List Unequal) → has_float (scrub_data flaws) ≡ false
scrub_none flaws =
    rw (none_of_each (difference_data (differing flaws)) (differing flaws)
    (difference_none (differing flaws)))
    (rw (none_of_each string (uncompared flaws) (λ name. refl)))

pub check_none : (c : Checkup) → has_float (check_data c) ≡ false
check_none c =
    rw (none_of_each unlike_data c.unlike.now (λ x. refl))
    (rw (none_of_each claim_data c.claims.now (λ x. refl))
    (rw (none_of_each (difference_data (differing c.flaws.now)) (differing c.flaws.now)
    (difference_none (differing c.flaws.now)))
    (rw (none_of_each (λ m. standing_mirror m (members c.state.now.components m.name))
    c.state.now.mirrors (λ m. standing_mirror_none m (members c.state.now.components m.name)))
    (rw (none_of_each string (uncompared c.flaws.now) (λ name. refl))))))

tasted_with_none : (filled : Option ℕ) (x : Member) → has_float (tasted_with filled x) ≡ false
tasted_with_none None x = refl
tasted_with_none (Some offset) x = refl

tasted_mirror_none : (g : Group) → has_float (tasted_mirror g) ≡ false
tasted_mirror_none g =
    rw (none_of_each tasted_component g.members.items (λ x. tasted_with_none (filled_to x.state) x))

pub tasting_none : (t : Tasted) (passed : List PassedOver)
    → has_float (tasting_data t passed) ≡ false
tasting_none t passed =
    rw (none_of_each left_data t.left.items (λ x. refl))
    (rw (none_of_each tasted_mirror t.groups.items tasted_mirror_none)
    (rw (none_of_each passed_data passed (λ x. refl))))
