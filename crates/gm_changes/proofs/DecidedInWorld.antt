-- What is seen alike is decided alike: what facts decide is what the world decides.
use Rattle.gm_changes.proofs.Common.{◌≡◌, ◌∙◌, inl, ℕ, ◌||◌, ◌+◌, ◌≤◌, Bool, true, false, not, nat_lt, refl, sym, ap, ap₂, subst, List, Option, map, Some, None, Result, Ok, Err, is_none, unwrap_or, list_any, Command, Label, Insert, Remove, Deactivate, Activate, Forget, Rebuild, Configure, Clear, Destroy, Lost, Advance, Adopt, Patch, not-false, Member, Mirror, Component, Has, put, put_all, Records, name, provider, mirror_of, World, Refusal, NoMirror, NameTaken, MidTaken, Absent, ProviderTaken, CarriesMetadata, TooSmall, NotMember, DidTaken, Full, TooManyMirrors, SomeLost, LastActive, AlreadyInactive, NotInactive, NoneLost, Inactive, NotSynchronizing, LastSyncid, LastGenid, NothingGiven, NotAdoptable, WrongSize, NoMetadata, BeingFilled, BeyondEnd, last_carries, Seen, seen_in, has_size, is_there_and, applies, has_wrong_size, looked_at, takes_mid, has_did, finds_did_twice, is_unfit, members_named, awaited, mirror_named, after, intents_of, new_mirror, first_component, spare, on_found, source_in, data_of, is_adoptable, adopted_mirror, adopted, AreFacts, TellEqual, needed_by, seen_of, Changed, Decides, IsGood, any_agree, Has-append_left, Has-append_right, map-Has}
use Rattle.gm_refusals.specs.declared.facts.Fact.{Fact}
use Rattle.gm_refusals.proofs.SeenAlike.{SeeAlike, same_mid, same_twice, same_source, same_adoptable, same_adopted}

-- ---- what is seen of images that are to be adopted

module _ (x y : Seen) where
  same_takes : (c : Command) → ((p : List ℕ) → Has (looked_at c) p → x.last p ≡ y.last p)
      → (m : Mirror) → takes_mid x c m ≡ takes_mid y c m
  same_takes (Adopt n ps) h m = same_mid x y ps m.mid h
  same_takes _ h m = refl

  same_dids : (c : Command) → ((p : List ℕ) → Has (looked_at c) p → x.last p ≡ y.last p)
      → finds_did_twice x c ≡ finds_did_twice y c
  same_dids (Adopt n ps) h = same_twice x y ps h
  same_dids _ h = refl

  same_unfit : (c : Command) → SeeAlike x y (looked_at c) → is_unfit x c ≡ is_unfit y c
  same_unfit (Adopt n ps) s = ap not (same_adoptable x y ps s n)
  same_unfit _ s = refl

  -- an adoption sees the providers alike, with as many first sectors equal to those of the source
  abbrev pub AdoptAlike : Command → Type 0
  AdoptAlike (Adopt n ps) = SeeAlike x y ps
      × ((b : Member) → source_in y ps ≡ Some b → (p : List ℕ) → Has ps p
      → (k : ℕ) → k ≤ data_of b.metadata → x.equal b.provider p k ≡ y.equal b.provider p k)
  AdoptAlike _ = Unit {0}

-- ---- what refusals ask

-- the refusal asks what last sectors say
abbrev pub asks_last : Refusal → Bool
asks_last MidTaken = true
asks_last CarriesMetadata = true
asks_last DidTaken = true
asks_last NotAdoptable = true
asks_last NoMetadata = true
asks_last _ = false

-- the same is seen of what the refusal asks
pub record AskAlike (s : Records) (c : Command) (x y : Seen) (r : Refusal) : Type 0 where
  pub size : (p : List ℕ) → Has (looked_at c) p → x.size p ≡ y.size p
  pub mirror : (k : Component) → Has (awaited s c) k → x.size k.provider ≡ y.size k.provider
  pub last : asks_last r ≡ true → (p : List ℕ) → Has (looked_at c) p → x.last p ≡ y.last p

module _ (s : Records) (c : Command) (x y : Seen) where
  -- a test of what the command looks at comes out alike
  by_size : (test : Option ℕ → Bool)
      → ((p : List ℕ) → Has (looked_at c) p → x.size p ≡ y.size p)
      → list_any (λ p. test (x.size p)) (looked_at c)
      ≡ list_any (λ p. test (y.size p)) (looked_at c)
  by_size test size = any_agree _ _ (looked_at c) (λ p h. ap test (size p h))

  by_last : (test : Option (List ℕ) → Bool)
      → ((p : List ℕ) → Has (looked_at c) p → x.last p ≡ y.last p)
      → list_any (λ p. test (x.last p)) (looked_at c)
      ≡ list_any (λ p. test (y.last p)) (looked_at c)
  by_last test last = any_agree _ _ (looked_at c) (λ p h. ap test (last p h))

  small : ((p : List ℕ) → Has (looked_at c) p → x.size p ≡ y.size p) → (o : Option Mirror)
      → is_there_and o
      (λ m. list_any (λ p. is_there_and (x.size p) (λ n. nat_lt n (m.data_sectors + 1)))
      (looked_at c)) ≡ is_there_and o
      (λ m. list_any (λ p. is_there_and (y.size p) (λ n. nat_lt n (m.data_sectors + 1)))
      (looked_at c))
  small size None = refl
  small size (Some m) = by_size (λ o. is_there_and o (λ n. nat_lt n (m.data_sectors + 1))) size

  -- a refusal applies alike if what it asks is seen alike
  pub same_applies : (r : Refusal) → AskAlike s c x y r → applies s x c r ≡ applies s y c r
  same_applies NoMirror a = refl
  same_applies NameTaken a = refl
  same_applies MidTaken a =
      any_agree _ _ s.mirrors (λ m h. same_takes x y c (a.last refl) m)
  same_applies Absent a =
      ap₂ (λ a b. a || b) (by_size is_none a.size)
      (any_agree _ _ (awaited s c) (λ k h. ap (λ o. not (has_size o k.sectors)) (a.mirror k h)))
  same_applies ProviderTaken a = refl
  same_applies CarriesMetadata a = by_last last_carries (a.last refl)
  same_applies TooSmall a = small a.size (mirror_named s c)
  same_applies NotMember a = refl
  same_applies DidTaken a = ap (λ b. list_any (has_did c) (members_named s c) || b)
      (same_dids x y c (a.last refl))
  same_applies Full a = refl
  same_applies TooManyMirrors a = refl
  same_applies SomeLost a = refl
  same_applies LastActive a = refl
  same_applies AlreadyInactive a = refl
  same_applies NotInactive a = refl
  same_applies NoneLost a = refl
  same_applies Inactive a = refl
  same_applies NotSynchronizing a = refl
  same_applies LastSyncid a = refl
  same_applies LastGenid a = refl
  same_applies NothingGiven a = refl
  same_applies NotAdoptable a =
      same_unfit x y c (record { size = a.size; last = a.last refl })
  same_applies WrongSize a = by_size (λ o. is_there_and o has_wrong_size) a.size
  same_applies NoMetadata a = by_last (λ o. not (last_carries o)) (a.last refl)
  same_applies BeingFilled a = refl
  same_applies BeyondEnd a = refl

-- the records depend on the sizes of the providers that are looked at, and on what an adoption sees
pub same_after : (x y : Seen) (c : Command) (s : Records)
    → ((p : List ℕ) → Has (looked_at c) p → x.size p ≡ y.size p) → AdoptAlike x y c
    → after x c s ≡ after y c s
same_after x y (Label new) s e q =
    ap (λ o. let r :
    Records = record {
      mirrors = put name (new_mirror new (unwrap_or o 0)) s.mirrors;
      components = put provider (first_component new (unwrap_or o 0)) s.components;
    } in
    r) (e new.provider (inl refl))
same_after x y (Insert new) s e q =
    ap (λ o. on_found (mirror_of s new.name) s
    (λ m. record {
      mirrors = put name (record m { all = m.all + 1 }) s.mirrors;
      components = put provider (spare m new (unwrap_or o 0)) s.components;
    }))
    (e new.provider (inl refl))
same_after x y (Remove n p) s e q = refl
same_after x y (Deactivate n p) s e q = refl
same_after x y (Activate n p) s e q = refl
same_after x y (Forget n) s e q = refl
same_after x y (Rebuild n p) s e q = refl
same_after x y (Configure n settings) s e q = refl
same_after x y (Clear p) s e q = refl
same_after x y (Destroy n) s e q = refl
same_after x y (Lost n ps) s e q = refl
same_after x y (Advance n p) s e q = refl
same_after x y (Patch n first sectors) s e q = refl
same_after x y (Adopt n ps) s e q =
    same_source_after (source_in x ps) (same_source x y ps q.0)
  where
    same_source_after : (o : Option Member) → o ≡ source_in y ps
        → on_found o s (λ b. record {
          mirrors = put name (adopted_mirror n b.metadata) s.mirrors;
          components = put_all provider (adopted x n ps b) s.components;
        }) ≡ after y (Adopt n ps) s
    same_source_after None i = rw (← i) refl
    same_source_after (Some b) i =
        ap (λ ks. let r :
        Records = record {
          mirrors = put name (adopted_mirror n b.metadata) s.mirrors;
          components = put_all provider ks s.components;
        } in
        r) (same_adopted x y ps q.0 n b (q.1 b (sym i)))
        ∙ ap (λ o. on_found o s
        (λ b. record {
          mirrors = put name (adopted_mirror n b.metadata) s.mirrors;
          components = put_all provider (adopted y n ps b) s.components;
        })) i

-- ---- the facts of a world

module _ (facts : List Fact) (u : World) (c : Command) (are : AreFacts facts u c) where
  seen : (p : List ℕ) → Has (looked_at c) p → Has (needed_by u.state c) p
  seen p h = Has-append_left (looked_at c) (map provider (awaited u.state c)) p h

  of_mirror : (k : Component) → Has (awaited u.state c) k → Has (needed_by u.state c) k.provider
  of_mirror k h = Has-append_right (looked_at c) (map provider (awaited u.state c)) k.provider
      (map-Has provider (awaited u.state c) k h)

  pub same : (r : Refusal) → applies u.state (seen_in facts) c r ≡ applies u.state (seen_of u) c r
  same r = same_applies u.state c (seen_in facts) (seen_of u) r (record {
    size = λ p h. are.size p (seen p h);
    mirror = λ k h. are.size k.provider (of_mirror k h);
    last = λ asks p h. are.last p (seen p h);
  })

-- facts that tell which sectors are equal tell it if the command is good
equal_by : (facts : List Fact) (u : World) (c : Command)
    → SeeAlike (seen_in facts) (seen_of u) (looked_at c) → TellEqual facts u c
    → IsGood u.state (seen_of u) c → AdoptAlike (seen_in facts) (seen_of u) c
equal_by facts u (Adopt n ps) alike tell good = (
  alike,
  λ b from p h k l.
      tell (not-false (is_adoptable (seen_of u) n ps)
      (good NotAdoptable refl)) b from p h k l,
)
equal_by facts u _ alike tell good = tt

-- what is decided from facts of the world is decided in the world
decides_in : (facts : List Fact) (u : World) (c : Command) → AreFacts facts u c
    → (r : Result Changed Refusal) → Decides u.state (seen_in facts) c r
    → Decides u.state (seen_of u) c r
decides_in facts u c are (Err r) d = record {
  listed = d.listed;
  met = sym (same facts u c are r) ∙ d.met;
  least = λ q h t. d.least q h (same facts u c are q ∙ t);
}
decides_in facts u c are (Ok ch) d =
    let good : IsGood u.state (seen_of u) c = λ r h. sym (same facts u c are r) ∙ d.good r h in
    let alike : SeeAlike (seen_in facts) (seen_of u) (looked_at c) =
    record {
      size = λ p h. are.size p (seen facts u c are p h);
      last = λ p h. are.last p (seen facts u c are p h);
    } in
    let e = same_after (seen_in facts) (seen_of u) c u.state alike.size
    (equal_by facts u c alike are.equal good) in
    record {
      good = good;
      records = d.records ∙ e;
      in_place = d.in_place;
      intents = d.intents ∙ ap (intents_of c u.state) e;
      bytes = d.bytes;
      reply = d.reply;
      once = d.once;
    }

pub in_world : (facts : List Fact) (s : Records) (c : Command) (r : Result Changed Refusal)
    → Decides s (seen_in facts) c r → (u : World) → u.state ≡ s → AreFacts facts u c
    → Decides u.state (seen_of u) c r
in_world facts s c r d u e are =
    decides_in facts u c are r (subst (λ (t : Records). Decides t (seen_in facts) c r) (sym e) d)
