-- Components that are changed where they stand.
use Rattle.gm_changes.proofs.Common.{◌≡◌, ◌∙◌, inl, inr, ℕ, Bool, refl, ap, List, map, cond, cases_Bool, same_label, Settings, Mirror, Component, Has, Ascends, put, put_all, members, provider, is_inactive, map_id, filter-map, put-map, filter-where, put_all-where, activated, advanced, configured, deactivated, freshened, rebuilt}
use Rattle.gm_state.specs.declared.records.Disk.TheVariants.{Inactive}

-- to put what is there changes nothing
pub put-again : {X : Type 0} (key : X → List ℕ) (xs : List X) → Ascends key xs → (x : X) → Has xs x
    → put key x xs ≡ xs
put-again {X} key xs a x h =
    put-map (λ (y : X). y) key xs a x x h refl refl (λ y i d. refl)
    ∙ map_id (λ (y : X). y) xs (λ y i. refl)

-- ---- changes of a component

-- what it is, and where, stays
pub record Keeps (f : Component → Component) : Type 0 where
  pub provider : (k : Component) → (f k).provider ≡ k.provider
  pub mirror : (k : Component) → (f k).mirror ≡ k.mirror
  pub did : (k : Component) → (f k).did ≡ k.did
  pub sectors : (k : Component) → (f k).sectors ≡ k.sectors

pub keeps_id : Keeps (λ k. k)
keeps_id = record { provider = λ k. refl; mirror = λ k. refl; did = λ k. refl; sectors = λ k. refl }

-- one change of those that pass a test, another of the rest
pub keeps_either : (p : Component → Bool) (f g : Component → Component) → Keeps f → Keeps g
    → Keeps (λ k. cond (p k) (f k) (g k))
keeps_either p f g a b = record {
  provider = λ k. elim (cases_Bool (p k)) [
    | inl e ↦ rw e (a.provider k)
    | inr e
        ↦ rw e (b.provider k)
  ];
  mirror = λ k. elim (cases_Bool (p k)) [ inl e ↦ rw e (a.mirror k) | inr e ↦ rw e (b.mirror k) ];
  did = λ k. elim (cases_Bool (p k)) [ inl e ↦ rw e (a.did k) | inr e ↦ rw e (b.did k) ];
  sectors = λ k. elim (cases_Bool (p k)) [
    | inl e ↦ rw e (a.sectors k)
    | inr e
        ↦ rw e (b.sectors k)
  ];
}

-- a mirror's components, changed, are those of the changed ones
pub mapped_members : (f : Component → Component) → Keeps f → (ks : List Component) (n : List ℕ)
    → members (map f ks) n ≡ map f (members ks n)
mapped_members f keeps ks n =
    filter-map f (λ (k : Component). same_label k.mirror n)
    (λ k. ap (λ x. same_label x n) (keeps.mirror k)) ks

-- ---- the components of a mirror are changed, and the others are as they were

abbrev pub where_of : List ℕ → (Component → Component) → Component → Component
where_of n f k = cond (same_label k.mirror n) (f k) k

pub keeps_where : (n : List ℕ) (f : Component → Component) → Keeps f → Keeps (where_of n f)
keeps_where n f keeps = keeps_either (λ k. same_label k.mirror n) f (λ k. k) keeps keeps_id

pub put_mapped : (n : List ℕ) (f : Component → Component) → Keeps f → (ks : List Component)
    → Ascends provider ks → put_all provider (map f (members ks n)) ks ≡ map (where_of n f) ks
put_mapped n f keeps ks a =
    put_all-where (λ k. same_label k.mirror n) provider f keeps.provider ks a

pub members_put : (n : List ℕ) (f : Component → Component) → Keeps f → (ks : List Component)
    → Ascends provider ks → members (put_all provider (map f (members ks n)) ks) n
    ≡ map f (members ks n)
members_put n f keeps ks a =
    ap (λ l. members l n) (put_mapped n f keeps ks a) ∙ filter-where (λ k. same_label k.mirror n) f
    (λ k. ap (λ x. same_label x n) (keeps.mirror k)) ks

-- ---- the changes of commands are such ones

pub keeps_freshened : (syncid : ℕ) → Keeps (freshened syncid)
keeps_freshened syncid =
    let counted : Keeps (λ k. record k { syncid = syncid }) =
    record { provider = λ k. refl; mirror = λ k. refl; did = λ k. refl; sectors = λ k. refl } in
    keeps_either (λ k. is_inactive k.disk) _ _ keeps_id counted

pub keeps_deactivated : (syncid : ℕ) (p : List ℕ) → Keeps (deactivated syncid p)
keeps_deactivated syncid p =
    let plain : Keeps (λ k. record k { disk = Inactive }) =
    record { provider = λ k. refl; mirror = λ k. refl; did = λ k. refl; sectors = λ k. refl } in
    keeps_either (λ k. same_label k.provider p) _ _ plain (keeps_freshened syncid)

pub keeps_configured : (settings : Settings) → Keeps (configured settings)
keeps_configured settings = record {
  provider = λ k. refl;
  mirror = λ k. refl;
  did = λ k. refl;
  sectors = λ k. refl;
}

pub keeps_activated : (m : Mirror) → Keeps (activated m)
keeps_activated m =
    record { provider = λ k. refl; mirror = λ k. refl; did = λ k. refl; sectors = λ k. refl }

pub keeps_rebuilt : Keeps rebuilt
keeps_rebuilt =
    record { provider = λ k. refl; mirror = λ k. refl; did = λ k. refl; sectors = λ k. refl }

pub keeps_advanced : (m : Mirror) → Keeps (advanced m)
keeps_advanced m =
    record { provider = λ k. refl; mirror = λ k. refl; did = λ k. refl; sectors = λ k. refl }
