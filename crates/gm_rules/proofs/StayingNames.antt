-- What a command's steps do to names, however often it is repeated: none goes, or none comes.
use Rattle.gm_rules.proofs.Common.{◌≡◌, ◌∙◌, ◌⊎◌, inl, inr, ℕ, ◌+◌, Bool, not, refl, sym, subst, List, [], ◌∷◌, Option, Some, None, filter, map, same_label, Command, Mirror, Component, Has, put, put_all, put_there, put_stays, Records, Seen, name, provider, members, mirror_of, component_of, Has-filter, same_tells, source_in, adopted, after, configured, deactivated, freshened}
use Rattle.gm_commands.specs.declared.command.Command.TheVariants as commands
use Rattle.gm_changes.specs.After.{on_found}
use Rattle.gm_changes.proofs.MakesChange.{without_all-filter}

module _ {X : Type 0} (key : X → List ℕ) where
  -- each name of xs is one of ys
  abbrev pub AreAmong : List X → List X → Type 0
  AreAmong xs ys = (x : X) → Has xs x → (y : X) × Has ys y × (key y ≡ key x)

  -- each of a list is one of it
  pub among_same : (xs : List X) → AreAmong xs xs
  among_same xs x h = (x, h, refl)

  -- each of the first is one of the last
  pub among_then : (xs ys zs : List X) → AreAmong xs ys → AreAmong ys zs → AreAmong xs zs
  among_then xs ys zs a b x h =
      let y = a x h in
      let z = b y.0 y.1 in
      (z.0, z.1, z.2 ∙ y.2)

  -- what is put takes the place of its name alone
  among_put : (xs : List X) (x : X) → AreAmong xs (put key x xs)
  among_put xs x z h =
      elim (same_tells (key z) (key x)) [
        | inl e ↦ (x, put_there key x xs, sym e.1)
        | inr n ↦ (z, put_stays key x xs z h n.1, refl)
      ]

  -- so do several that are put
  among_put_all : (zs xs : List X) → AreAmong xs (put_all key zs xs)
  among_put_all [] xs = among_same xs
  among_put_all (z ∷ zs) xs =
      among_then xs (put key z xs) (put_all key zs (put key z xs)) (among_put xs z)
      (among_put_all zs (put key z xs))

  -- what is left was there
  among_filter : (p : X → Bool) (xs : List X) → AreAmong (filter p xs) xs
  among_filter p xs x h = (x, (Has-filter p xs x h).0, refl)

module _ {X : Type 0} (key : X → List ℕ) (of : Records → List X) where
  -- what is made by way of what is found has every name, if each that may be made has
  found_stay : {Y : Type 0} (s : Records) (o : Option Y) (f : Y → Records)
      → ((y : Y) → AreAmong key (of s) (of (f y))) → AreAmong key (of s) (of (on_found o s f))
  found_stay s None f each = among_same key (of s)
  found_stay s (Some y) f each = each y

  -- and it has no new name likewise
  found_gone : {Y : Type 0} (s : Records) (o : Option Y) (f : Y → Records)
      → ((y : Y) → AreAmong key (of (f y)) (of s)) → AreAmong key (of (on_found o s f)) (of s)
  found_gone s None f each = among_same key (of s)
  found_gone s (Some y) f each = each y

  -- no name goes by the command, whatever the records
  abbrev pub NoneGoes : Command → Type 0
  NoneGoes c = (x : Seen) (s : Records) → AreAmong key (of s) (of (after x c s))

  -- none comes
  abbrev pub NoneComes : Command → Type 0
  NoneComes c = (x : Seen) (s : Records) → AreAmong key (of (after x c s)) (of s)

-- the lists of the records
abbrev pub mirrors_in : Records → List Mirror
mirrors_in s = s.mirrors

abbrev pub components_in : Records → List Component
components_in s = s.components

-- a command has no mirror's name go, or none come
pub mirrors_by : (c : Command) → NoneGoes name mirrors_in c ⊎ NoneComes name mirrors_in c
mirrors_by (commands.Label new) = inl (λ x s. among_put name s.mirrors _)
mirrors_by (commands.Insert new) =
    inl (λ x s. found_stay name mirrors_in s (mirror_of s new.name) _
    (λ m. among_put name s.mirrors _))
mirrors_by (commands.Remove n p) =
    inl (λ x s. found_stay name mirrors_in s (mirror_of s n) _ (λ m. among_put name s.mirrors _))
mirrors_by (commands.Deactivate n p) =
    inl (λ x s. found_stay name mirrors_in s (mirror_of s n) _ (λ m. among_put name s.mirrors _))
mirrors_by (commands.Activate n p) =
    inl (λ x s. found_stay name mirrors_in s (mirror_of s n) _ (λ m.
    found_stay name mirrors_in s (component_of s p) _ (λ k. among_same name s.mirrors)))
mirrors_by (commands.Forget n) =
    inl (λ x s. found_stay name mirrors_in s (mirror_of s n) _ (λ m. among_put name s.mirrors _))
mirrors_by (commands.Rebuild n p) =
    inl (λ x s. found_stay name mirrors_in s (component_of s p) _
    (λ k. among_same name s.mirrors))
mirrors_by (commands.Configure n settings) =
    inl (λ x s. found_stay name mirrors_in s (mirror_of s n) _ (λ m. among_put name s.mirrors _))
mirrors_by (commands.Clear p) = inl (λ x s. among_same name s.mirrors)
mirrors_by (commands.Destroy n) =
    inr (λ x s. among_filter name (λ m. not (same_label m.name n)) s.mirrors)
mirrors_by (commands.Lost n ps) =
    inl (λ x s. found_stay name mirrors_in s (mirror_of s n) _ (λ m. among_put name s.mirrors _))
mirrors_by (commands.Advance n p) =
    inl (λ x s. found_stay name mirrors_in s (mirror_of s n) _ (λ m.
    found_stay name mirrors_in s (component_of s p) _ (λ k. among_same name s.mirrors)))
mirrors_by (commands.Adopt n ps) =
    inl (λ x s. found_stay name mirrors_in s (source_in x ps) _ (λ b. among_put name s.mirrors _))
mirrors_by (commands.Patch n first sectors) =
    inl (λ x s. found_stay name mirrors_in s (mirror_of s n) _ (λ m. among_put name s.mirrors _))

-- nor a component's
pub components_by : (c : Command) → NoneGoes provider components_in c
    ⊎ NoneComes provider components_in c
components_by (commands.Label new) = inl (λ x s. among_put provider s.components _)
components_by (commands.Insert new) =
    inl (λ x s. found_stay provider components_in s (mirror_of s new.name) _
    (λ m. among_put provider s.components _))
components_by (commands.Remove n p) =
    inr (λ x s. found_gone provider components_in s (mirror_of s n) _
    (λ m. among_filter provider (λ k. not (same_label k.provider p)) s.components))
components_by (commands.Deactivate n p) =
    inl (λ x s. found_stay provider components_in s (mirror_of s n) _
    (λ m. among_put_all provider
    (map (deactivated (m.syncid + 1) p) (members s.components n)) s.components))
components_by (commands.Activate n p) =
    inl (λ x s. found_stay provider components_in s (mirror_of s n) _ (λ m.
    found_stay provider components_in s (component_of s p) _
    (λ k. among_put provider s.components _)))
components_by (commands.Forget n) =
    inl (λ x s. found_stay provider components_in s (mirror_of s n) _
    (λ m. among_same provider s.components))
components_by (commands.Rebuild n p) =
    inl (λ x s. found_stay provider components_in s (component_of s p) _
    (λ k. among_put provider s.components _))
components_by (commands.Configure n settings) =
    inl (λ x s. found_stay provider components_in s (mirror_of s n) _
    (λ m. among_put_all provider (map (configured settings) (members s.components n)) s.components))
components_by (commands.Clear p) = inl (λ x s. among_same provider s.components)
components_by (commands.Destroy n) =
    inr (λ x s. among_filter provider (λ k. not (same_label k.mirror n)) s.components)
components_by (commands.Lost n ps) =
    inr (λ x s. found_gone provider components_in s (mirror_of s n) _
    (λ m. subst (λ (l : List Component). AreAmong provider l s.components)
    (sym (without_all-filter ps s.components)) (among_filter provider _ s.components)))
components_by (commands.Advance n p) =
    inl (λ x s. found_stay provider components_in s (mirror_of s n) _ (λ m.
    found_stay provider components_in s (component_of s p) _
    (λ k. among_put provider s.components _)))
components_by (commands.Adopt n ps) =
    inl (λ x s. found_stay provider components_in s (source_in x ps) _
    (λ b. among_put_all provider (adopted x n ps b) s.components))
components_by (commands.Patch n first sectors) =
    inl (λ x s. found_stay provider components_in s (mirror_of s n) _
    (λ m. among_put_all provider
    (map (freshened (m.syncid + 1)) (members s.components n)) s.components))
