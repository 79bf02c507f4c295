-- A record that is put in place of the one of its name.
use Rattle.gm_lists.proofs.Common.{◌≡◌, ◌∙◌, inl, inr, ℕ, true, false, not, refl, sym, ap, subst, List, [], ◌∷◌, insert, prefix_len, bytes_eq, cases_Bool, not-true, Has, Ascends, label_lt, put, put_all, without, without_all}
use Rattle.gm_lists.proofs.Order.{same_tells, same_from, differ, lt_trans, lt_differ}
use Rattle.gm_lists.proofs.Putting.{Ascends-put, filter_id, put_first, put_insert}
use Rattle.gm_lists.proofs.Lists.{Has-filter, Ascends-filter}

module _ {X : Type 0} (key : X → List ℕ) where
  -- what is left has another name
  pub left_differs : (n : List ℕ) (ys : List X) (z : X) → Has (without key n ys) z
      → bytes_eq (key z) n ≡ false
  left_differs n ys z h =
      not-true (bytes_eq (key z) n) (Has-filter (λ (y : X). not (bytes_eq (key y) n)) ys z h).1

  -- what is after x has another name
  behind : (x : X) (ys : List X) → ((z : X) → Has ys z → label_lt (key x) (key z) ≡ true)
      → without key (key x) ys ≡ ys
  behind x ys h = filter_id (λ (y : X). not (bytes_eq (key y) (key x))) ys
      (λ z i. ap not (differ (key z) (key x) (λ q. lt_differ (key x) (key z) (h z i) (sym q))))

  -- to put is to take away what has the name, and put
  pub put_without : (x : X) (ys : List X) → Ascends key ys
      → put key x (without key (key x) ys) ≡ put key x ys
  put_without x [] a = refl
  put_without x (y ∷ ys) a =
      elim (same_tells (key x) (key y)) [
        | inl e ↦
            let u : bytes_eq (key y) (key x) ≡ true = same_from (key y) (key x) (sym e.1) in
            let above : (z : X) → Has ys z → label_lt (key x) (key z) ≡ true =
            λ z h. subst (λ (n : List ℕ). label_lt n (key z) ≡ true) (sym e.1) (a.0 z h) in
            rw (u, e.0) (ap (put key x) (behind x ys above) ∙ put_first key x ys above)
        | inr n ↦
            let u : bytes_eq (key y) (key x) ≡ false = differ (key y) (key x) (λ q. n.1 (sym q)) in
            elim (cases_Bool (label_lt (key x) (key y))) [
              | inl l ↦
                  let above : (z : X) → Has ys z → label_lt (key x) (key z) ≡ true =
                  λ z h. lt_trans (key x) (key y) (key z) l (a.0 z h) in
                  rw u (rw (n.0, l) (ap (λ zs. x ∷ y ∷ zs) (behind x ys above)))
              | inr l ↦ rw u (rw (n.0, l) (ap (λ zs. y ∷ zs) (put_without x ys a.1)))
            ]
      ]

  -- at its place among what is left
  pub placed : (x : X) (ys : List X) → Ascends key ys
      → insert (without key (key x) ys) (prefix_len (λ y. label_lt (key y) (key x))
      (without key (key x) ys)) x ≡ put key x ys
  placed x ys a = sym (put_insert key x (without key (key x) ys) (left_differs (key x) ys))
      ∙ put_without x ys a

  pub Ascends-without_all : (names : List (List ℕ)) (ys : List X) → Ascends key ys
      → Ascends key (without_all key names ys)
  Ascends-without_all [] ys a = a
  Ascends-without_all (n ∷ names) ys a =
      Ascends-without_all names (without key n ys)
      (Ascends-filter (λ (y : X). not (bytes_eq (key y) n)) key ys a)

  pub Ascends-put_all : (xs ys : List X) → Ascends key ys → Ascends key (put_all key xs ys)
  Ascends-put_all [] ys a = a
  Ascends-put_all (x ∷ xs) ys a = Ascends-put_all xs (put key x ys) (Ascends-put key x ys a)
