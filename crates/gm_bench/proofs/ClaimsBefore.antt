-- At rest images claim the data of before, whatever command comes next.
use Rattle.gm_bench.proofs.Common.{◌≡◌, ◌∙◌, inl, inr, ℕ, ◌+◌, ◌-◌, ◌≤◌, ◌==◌, false, List, [], ◌∷◌, Some, refl, sym, ap, subst, arith, IsSome, cases_Bool, nat_tests, option_cases, Image, SameThere, same_label, Command, Has, put, find_one, same_is, put_there, Mirror, Records, mirror_of, component_of, name, World, Sound, Claims, data_at, bears_one, same_data, some_there, sound_claims, Step, Reply, InTurn, IsSeries, Keyed, Seen, after, seen_of}
use Rattle.gm_commands.specs.declared.command.Command.TheVariants.{Advance, Patch}

-- a syncid of before isn't the next one
not_next : (n m : ℕ) → n ≤ m → (m + 1 == n) ≡ false
not_next n m low = grind (arith, nat_tests)

-- an image whose syncid its mirror had before tells the list of before
abbrev pub TellsBefore : World → World → Type 0
TellsBefore u w = (m : Mirror) → Has u.state.mirrors m → (syncid i : ℕ) → syncid ≤ m.syncid
    → data_at u w m.name syncid i ≡ u.holds m.name i

-- ---- one step

module _ (u w : World) (sound : Sound u) (after_sound : Sound w) (key : List ℕ) (r : Reply) where
  -- of a mirror that is patched it tells the list of before, since the syncid rises
  module _ (n : List ℕ) (first : ℕ) (sectors : List (List ℕ))
      (step : Step u key (Patch n first sectors) w r) (m : Mirror) (h : Has u.state.mirrors m)
      (syncid i : ℕ) (low : syncid ≤ m.syncid) where
    patched_before : n ≡ m.name → data_at u w m.name syncid i ≡ u.holds m.name i
    patched_before is =
        let at : mirror_of u.state n ≡ Some m =
        subst (λ (q : List ℕ). mirror_of u.state q ≡ Some m) (sym is)
        (find_one name u.state.mirrors sound.state.mirrors_in_order m h) in
        let mirrors : w.state.mirrors ≡ put name (record m { syncid = m.syncid + 1 })
        u.state.mirrors = ap (λ s. s.mirrors) step.records ∙ rw at refl in
        let there : Has w.state.mirrors (record m { syncid = m.syncid + 1 }) =
        subst (λ (l : List Mirror). Has l (record m { syncid = m.syncid + 1 })) (sym mirrors)
        (put_there name (record m { syncid = m.syncid + 1 }) u.state.mirrors) in
        let now : mirror_of w.state m.name ≡ Some (record m { syncid = m.syncid + 1 }) =
        find_one name w.state.mirrors after_sound.state.mirrors_in_order
        (record m { syncid = m.syncid + 1 }) there in
        let other : (m.syncid + 1 == syncid) ≡ false = not_next syncid m.syncid low in
        rw (now, other) refl

    list_before : data_at u w m.name syncid i ≡ u.holds m.name i
    list_before = elim (cases_Bool (same_label n m.name)) [
      | inl on ↦ patched_before (same_is n m.name on)
      | inr off ↦ same_data u w m.name syncid i (step.holds m h i ∙ rw off refl)
    ]

  step_tells : (c : Command) → Step u key c w r → TellsBefore u w
  step_tells (Patch n first sectors) step m h syncid i low =
      list_before n first sectors step m h syncid i low
  step_tells _ step m h syncid i low = same_data u w m.name syncid i (step.holds m h i)

-- ---- several advances

-- an advance leaves the mirrors
advance_mirrors : (x : Seen) (n p : List ℕ) (s : Records)
    → (after x (Advance n p) s).mirrors ≡ s.mirrors
advance_mirrors x n p s = elim (option_cases (mirror_of s n)) [
  | inl none ↦ rw none refl
  | inr some ↦ elim (option_cases (component_of s p)) [
    | inl none ↦ rw (some.1, none) refl
    | inr there ↦ rw (some.1, there.1) refl
  ]
]

-- and the lists of data
lists_stay : (u w : World) (n p : List ℕ) (ks : List Keyed) → InTurn u (Advance n p) ks w
    → (m : Mirror) → Has u.state.mirrors m → (i : ℕ) → w.holds m.name i ≡ u.holds m.name i
lists_stay u w n p [] t m h i = ap (λ (x : World). x.holds m.name i) t
lists_stay u w n p (k ∷ ks) (can, v, sound, step, more) m h i =
    let mirrors : v.state.mirrors ≡ u.state.mirrors =
    ap (λ (s : Records). s.mirrors) step.records ∙ advance_mirrors (seen_of u) n p u.state in
    lists_stay v w n p ks more m (subst (λ (l : List Mirror). Has l m) (sym mirrors) h) i
    ∙ step.holds m h i

pub turns_tell : (u w : World) (c : Command) (ks : List Keyed) → Sound u → Sound w
    → IsSeries c ks → InTurn u c ks w → TellsBefore u w
turns_tell u w c [] sound after_sound series turns = absurd series
turns_tell u w c (k ∷ []) sound after_sound series (can, v, at, step, is) =
    step_tells u w sound after_sound k.key k.reply c
    (subst (λ (x : World). Step u k.key c x k.reply) (sym is) step)
turns_tell u w c (k ∷ (l ∷ ks)) sound after_sound (n, p, is) turns =
    λ m h syncid i low. same_data u w m.name syncid i (lists_stay u w n p (k ∷ (l ∷ ks))
    (subst (λ (d : Command). InTurn u d (k ∷ (l ∷ ks)) w) is turns) m h i)

-- ---- the claims

pub claims_before : (u w : World) → Sound u → TellsBefore u w → (x : Image)
    → SameThere u.size x u.shelf → Claims u w x
claims_before u w sound tells x same m k d o ok bears named mid active clean i below =
    let there : IsSome (u.size k.provider) =
    some_there (u.size k.provider) k.sectors (sound.sizes m k o) in
    let last = same k.provider there (k.sectors - 1) ∙ sound.full m k o in
    let is = bears_one u.state m k sound.state o (x k.provider (k.sectors - 1)) last d ok bears in
    let old : k.syncid ≤ m.syncid = (sound.state.each m o.mirror).syncids k o.component in
    let low : d.syncid ≤ m.syncid = subst (λ (n : ℕ). n ≤ m.syncid) (sym (ap (λ e. e.syncid) is))
    old in
    sound_claims u x sound same m k d o ok bears named mid active clean i below
    ∙ (same_data u u m.name d.syncid i refl
    ∙ sym (tells m o.mirror d.syncid i low))
