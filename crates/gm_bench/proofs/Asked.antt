-- The part that is asked for serves to decide on the command.
use Rattle.gm_bench.proofs.Common.{◌≡◌, ◌∙◌, ◌⊎◌, inl, inr, ⊎_elim, ℕ, true, ◌||◌, ◌==◌, refl, sym, subst, List, [], ◌∷◌, Option, Some, None, eqb-true, eq-eqb, cons_option, list_any, or_cases, or_left, or_right, Metadata, Command, Label, Adopt, Mirror, Records, IsState, Has, filter-Has, found_mids, mid_of, tells_mid, told, has_mid, takes_mid, IsPartToDecide, any_named, is_asked, is_called, is_named, part_of, Seen, is_there_and, members, same_mid, adopted_from}

-- a mid that a last sector tells of is one of those found
one_more : (mid : ℕ) (o : Option Metadata) (others : List ℕ)
    → (is_there_and o (λ m. m.mid == mid) ≡ true) ⊎ (list_any (λ m. mid == m) others ≡ true)
    → list_any (λ m. mid == m) (cons_option (mid_of o) others) ≡ true
one_more mid None others (inl h) = absurd (let f : ⊥ = cc in f)
one_more mid None others (inr h) = h
one_more mid (Some d) others (inl h) =
    or_left (mid == d.mid) _ (eq-eqb mid d.mid (sym (eqb-true d.mid mid h)))
one_more mid (Some d) others (inr h) = or_right (mid == d.mid) _ h

found_mid : (x : Seen) (ps : List (List ℕ)) (mid : ℕ) → list_any (tells_mid x mid) ps ≡ true
    → list_any (λ m. mid == m) (found_mids x ps) ≡ true
found_mid x [] mid e = e
found_mid x (p ∷ ps) mid e =
    one_more mid (told (x.last p)) (found_mids x ps)
    (⊎_elim (λ (h : tells_mid x mid p ≡ true). inl h)
    (λ (h : list_any (tells_mid x mid) ps ≡ true). inr (found_mid x ps mid h))
    (or_cases (tells_mid x mid p) (list_any (tells_mid x mid) ps) e))

-- a mirror whose mid the command takes is called for
called : (x : Seen) (c : Command) (m : Mirror) → takes_mid x c m ≡ true
    → is_called c (found_mids x (adopted_from c)) m ≡ true
called x (Adopt n ps) m e =
    or_right (is_named (Adopt n ps) m || has_mid (Adopt n ps) m) _ (found_mid x ps m.mid e)
called x (Label new) m e =
    or_left (is_named (Label new) m || (m.mid == new.mid)) _ (or_right (is_named (Label new) m) _ e)
called x _ m e = absurd (let f : ⊥ = cc in f)

-- the part that was read, after the mids that were found when x is seen, serves if as much is
-- seen of what is adopted
pub serves : (s part : Records) (c : Command) (x y : Seen) → IsState s
    → part ≡ part_of s c (found_mids x (adopted_from c))
    → ((m : Mirror) → takes_mid y c m ≡ takes_mid x c m) → IsPartToDecide part y c s
serves s part c x y state is same = record {
  of = record { state = state; mids = found_mids x (adopted_from c); is = is };
  found = λ m h t.
      let asked : is_asked s c (found_mids x (adopted_from c)) m ≡ true =
      or_left (is_called c (found_mids x (adopted_from c)) m)
      (any_named c (members s.components m.name)) (called x c m (sym (same m) ∙ t)) in
      subst (λ (r : Records). Has r.mirrors m) (sym is)
      (filter-Has (is_asked s c (found_mids x (adopted_from c))) s.mirrors m h asked);
}

-- what two say alike of images to be adopted
pub takes_alike : (x y : Seen) (c : Command)
    → ((p : List ℕ) → Has (adopted_from c) p → x.last p ≡ y.last p) → (m : Mirror)
    → takes_mid x c m ≡ takes_mid y c m
takes_alike x y (Adopt n ps) h m = same_mid x y ps m.mid h
takes_alike x y _ h m = refl
