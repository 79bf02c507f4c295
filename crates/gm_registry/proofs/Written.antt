-- The tables with a change hold the rows of the records with it.
use Rattle.gm_registry.proofs.Common.{◌≡◌, ◌∙◌, inl, inr, ℕ, ◌+◌, true, false, not, List, [], ◌∷◌, ◌++◌, map, filter, length, Option, Some, None, refl, sym, ap, subst, arith, cases_Bool, IsPermutation-refl, IsPermutation-trans, IsPermutation-cons, IsPermutation-map, IsPermutation-swap, filter-map, IsPermutation-filter, Mirror, Component, Has, Ascends, label_lt, put, put_all, without, without_all, Records, IsState, name, provider, Tables, MirrorRow, ComponentRow, CommandRow, mirror_row, component_row, intent_rows, patch_rows, same_is, same_from, lt_differ, lt_trans, Ascends-put, filter_id, Ascends-filter, Changed, Further, string_bytes, put_some, without_some, changed_by, HoldState, without_gone, mirror_key, component_key, without_component, with_component, without_some_mirror, with_some_mirror, without_components, with_components, with_intents, with_bytes, with_records, with_command, with_further, command_row, with_change, with_accepted}
use Rattle.std.specs.List.Sorted.{IsPermutation}
use Rattle.std.specs.Str.{bytes_eq}
use Rattle.gm_lists.proofs.Order.{differ}

-- ---- lists of records and of their rows

module _ {A B : Type 0} (row : A → B) (key : A → List ℕ) (row_key : B → List ℕ)
    (keys : (x : A) → row_key (row x) ≡ key x) where
  without_rows : (n : List ℕ) (xs : List A) (rows : List B) → IsPermutation (map row xs) rows
      → IsPermutation (map row (without key n xs)) (without row_key n rows)
  without_rows n xs rows p =
      let same : filter (λ y. not (bytes_eq (row_key y) n)) (map row xs)
      ≡ map row (without key n xs)
      = filter-map (λ y. not (bytes_eq (row_key y) n)) row xs
      ∙ (λ i. map row (filter (λ x. not (bytes_eq (keys x i) n)) xs)) in
      subst (λ l. IsPermutation l (without row_key n rows)) same
      (IsPermutation-filter (λ y. not (bytes_eq (row_key y) n)) (map row xs) rows p)

  each_without : (ns : List (List ℕ)) (xs : List A) (rows : List B)
      → IsPermutation (map row xs) rows
      → IsPermutation (map row (without_all key ns xs)) (without_all row_key ns rows)
  each_without [] xs rows p = p
  each_without (n ∷ ns) xs rows p =
      each_without ns (without key n xs) (without row_key n rows) (without_rows n xs rows p)

  all_others : (x : A) (ys : List A) → ((z : A) → Has ys z → label_lt (key x) (key z) ≡ true)
      → without key (key x) ys ≡ ys
  all_others x ys h =
      filter_id (λ z. not (bytes_eq (key z) (key x))) ys
      (λ z k. ap not (differ (key z) (key x) (λ e. lt_differ (key x) (key z) (h z k) (sym e))))

  swapped : {X : Type 0} (a b : X) (xs : List X) → IsPermutation (a ∷ b ∷ xs) (b ∷ a ∷ xs)
  swapped a b xs = IsPermutation-swap (a ∷ b ∷ xs) (b ∷ a ∷ xs) 0 1 (omega arith) (omega arith) refl

  -- to put is to add, once what has the name is gone
  put_is : (x : A) (ys : List A) → Ascends key ys
      → IsPermutation (put key x ys) (x ∷ without key (key x) ys)
  put_is x [] a = IsPermutation-refl (x ∷ [])
  put_is x (y ∷ ys) a =
      elim (cases_Bool (bytes_eq (key x) (key y))) [
        | inl e ↦
            let at : key x ≡ key y = same_is (key x) (key y) e in
            let back : bytes_eq (key y) (key x) ≡ true = same_from (key y) (key x) (sym at) in
            let rest : without key (key x) ys ≡ ys =
            all_others x ys (λ z k. subst (λ (n : List ℕ). label_lt n (key z) ≡ true) (sym at)
            (a.0 z k)) in
            rw (e, back, rest) (IsPermutation-refl (x ∷ ys))
        | inr e ↦
            let other : bytes_eq (key y) (key x) ≡ false =
            differ (key y) (key x)
            (λ s. absurd (let t : bytes_eq (key x) (key y) ≡ true = same_from (key x) (key y)
            (sym s) in let f : true ≡ false = sym t ∙ e in let no : ⊥ = cc in no)) in
            elim (cases_Bool (label_lt (key x) (key y))) [
              | inl l ↦
                  let rest : without key (key x) ys ≡ ys =
                  all_others x ys (λ z k. lt_trans (key x) (key y) (key z) l (a.0 z k)) in
                  rw (e, l, other, rest) (IsPermutation-refl (x ∷ y ∷ ys))
              | inr l ↦
                  let deeper = IsPermutation-cons y (put key x ys) (x ∷ without key (key x) ys)
                  (put_is x ys a.1) in
                  rw (e, l, other) (IsPermutation-trans _ _ _ deeper
                  (swapped y x (without key (key x) ys)))
            ]
      ]

  put_rows : (x : A) (xs : List A) (rows : List B) → Ascends key xs
      → IsPermutation (map row xs) rows
      → IsPermutation (map row (put key x xs)) (row x ∷ without row_key (key x) rows)
  put_rows x xs rows a p =
      IsPermutation-trans _ _ _ (IsPermutation-map row _ _ (put_is x xs a))
      (IsPermutation-cons (row x) _ _ (without_rows (key x) xs rows p))

-- ---- the tables

abbrev put_some_row : Option Mirror → List MirrorRow → List MirrorRow
put_some_row None rows = rows
put_some_row (Some m) rows = mirror_row m ∷ without mirror_key m.name rows

abbrev without_some_row : Option (List ℕ) → List MirrorRow → List MirrorRow
without_some_row None rows = rows
without_some_row (Some n) rows = without mirror_key n rows

abbrev put_all_rows : List Component → List ComponentRow → List ComponentRow
put_all_rows [] rows = rows
put_all_rows (k ∷ ks) rows =
    put_all_rows ks (component_row k ∷ without component_key k.provider rows)

without_components_is : (ns : List (List ℕ)) (t : Tables)
    → without_components ns t ≡ record t { components = without_all component_key ns t.components }
without_components_is [] t = refl
without_components_is (n ∷ ns) t = without_components_is ns (without_component n t)

with_components_is : (ks : List Component) (t : Tables)
    → with_components ks t ≡ record t { components = put_all_rows ks t.components }
with_components_is [] t = refl
with_components_is (k ∷ ks) t = with_components_is ks (with_component (component_row k) t)

without_some_is : (o : Option (List ℕ)) (t : Tables)
    → without_some_mirror o t ≡ record t { mirrors = without_some_row o t.mirrors }
without_some_is None t = refl
without_some_is (Some n) t = refl

with_some_is : (o : Option Mirror) (t : Tables)
    → with_some_mirror o t ≡ record t { mirrors = put_some_row o t.mirrors }
with_some_is None t = refl
with_some_is (Some m) t = refl

abbrev written : Changed → Tables → Tables
written ch t = record {
  mirrors = put_some_row ch.mirror (without_some_row ch.gone_mirror t.mirrors);
  components =
      put_all_rows ch.components (without_all component_key ch.gone_components t.components);
  intents = t.intents;
  commands = t.commands;
  patches = t.patches;
}

pub with_records_is : (ch : Changed) (t : Tables) → with_records ch t ≡ written ch t
with_records_is ch t =
    ap (λ (s : Tables). with_components ch.components
    (with_some_mirror ch.mirror (without_some_mirror ch.gone_mirror s)))
    (without_components_is ch.gone_components t)
    ∙ (ap (λ (s : Tables). with_components ch.components (with_some_mirror ch.mirror s))
    (without_some_is ch.gone_mirror
    (record t { components = without_all component_key ch.gone_components t.components }))
    ∙ (ap (λ (s : Tables). with_components ch.components s)
    (with_some_is ch.mirror (record t {
      mirrors = without_some_row ch.gone_mirror t.mirrors;
      components = without_all component_key ch.gone_components t.components;
    }))
    ∙ with_components_is ch.components
    (record t {
      mirrors = put_some_row ch.mirror (without_some_row ch.gone_mirror t.mirrors);
      components = without_all component_key ch.gone_components t.components;
    })))

-- ---- their rows

mirrors_without : (o : Option (List ℕ)) (ms : List Mirror) (rows : List MirrorRow)
    → IsPermutation (map mirror_row ms) rows
    → IsPermutation (map mirror_row (without_some o ms)) (without_some_row o rows)
mirrors_without None ms rows p = p
mirrors_without (Some n) ms rows p = without_rows mirror_row name mirror_key (λ m. refl) n ms rows p

ascends_without : (o : Option (List ℕ)) (ms : List Mirror) → Ascends name ms
    → Ascends name (without_some o ms)
ascends_without None ms a = a
ascends_without (Some n) ms a = Ascends-filter (λ m. not (bytes_eq (name m) n)) name ms a

mirrors_with : (o : Option Mirror) (ms : List Mirror) (rows : List MirrorRow) → Ascends name ms
    → IsPermutation (map mirror_row ms) rows
    → IsPermutation (map mirror_row (put_some o ms)) (put_some_row o rows)
mirrors_with None ms rows a p = p
mirrors_with (Some m) ms rows a p = put_rows mirror_row name mirror_key (λ m. refl) m ms rows a p

ascends_all : (ns : List (List ℕ)) (ks : List Component) → Ascends provider ks
    → Ascends provider (without_all provider ns ks)
ascends_all [] ks a = a
ascends_all (n ∷ ns) ks a =
    ascends_all ns (without provider n ks)
    (Ascends-filter (λ k. not (bytes_eq (provider k) n)) provider ks a)

components_with : (new ks : List Component) (rows : List ComponentRow) → Ascends provider ks
    → IsPermutation (map component_row ks) rows
    → IsPermutation (map component_row (put_all provider new ks)) (put_all_rows new rows)
components_with [] ks rows a p = p
components_with (k ∷ new) ks rows a p =
    components_with new (put provider k ks) (component_row k
    ∷ without component_key k.provider rows) (Ascends-put provider k ks a)
    (put_rows component_row provider component_key (λ k. refl) k ks rows a p)

module _ (ch : Changed) (s : Records) (t : Tables) where
  mirrors_written : Ascends name s.mirrors → IsPermutation (map mirror_row s.mirrors) t.mirrors
      → IsPermutation (map mirror_row (changed_by ch s).mirrors) (written ch t).mirrors
  mirrors_written a p =
      mirrors_with ch.mirror (without_some ch.gone_mirror s.mirrors)
      (without_some_row ch.gone_mirror t.mirrors) (ascends_without ch.gone_mirror s.mirrors a)
      (mirrors_without ch.gone_mirror s.mirrors t.mirrors p)

  components_written : Ascends provider s.components
      → IsPermutation (map component_row s.components) t.components
      → IsPermutation (map component_row (changed_by ch s).components) (written ch t).components
  components_written a p =
      components_with ch.components (without_all provider ch.gone_components s.components)
      (without_all component_key ch.gone_components t.components)
      (ascends_all ch.gone_components s.components a)
      (each_without component_row provider component_key
      (λ k. refl) ch.gone_components s.components t.components p)

-- ---- the tables without what goes, and then with the mirror that is put

abbrev pub left_by : Changed → Records → Records
left_by ch s = record {
  mirrors = without_some ch.gone_mirror s.mirrors;
  components = without_all provider ch.gone_components s.components;
}

abbrev pub with_mirror_of : Changed → Records → Records
with_mirror_of ch s = record (left_by ch s) { mirrors = (changed_by ch s).mirrors }

module _ (ch : Changed) (s : Records) (t : Tables) (held : HoldState s t) where
  pub components_left : IsPermutation (map component_row (left_by ch s).components)
      (without_components ch.gone_components t).components
  components_left =
      subst (λ (a : Tables). IsPermutation (map component_row (left_by ch s).components)
      a.components) (sym (without_components_is ch.gone_components t))
      (each_without component_row provider component_key (λ k. refl) ch.gone_components
      s.components t.components held.components)

  pub left_held : HoldState (left_by ch s) (without_gone ch t)
  left_held =
      subst (HoldState (left_by ch s))
      (sym (without_some_is ch.gone_mirror (without_components ch.gone_components t)))
      (record {
        mirrors = subst (λ (a : Tables). IsPermutation (map mirror_row (left_by ch s).mirrors)
            (without_some_row ch.gone_mirror a.mirrors))
            (sym (without_components_is ch.gone_components t))
            (mirrors_without ch.gone_mirror s.mirrors t.mirrors held.mirrors);
        components = components_left;
      })

  pub with_mirror_held : Ascends name s.mirrors
      → HoldState (with_mirror_of ch s) (with_some_mirror ch.mirror (without_gone ch t))
  with_mirror_held a =
      subst (HoldState (with_mirror_of ch s)) (sym (with_some_is ch.mirror (without_gone ch t)))
      (record {
        mirrors = mirrors_with ch.mirror (left_by ch s).mirrors (without_gone ch t).mirrors
            (ascends_without ch.gone_mirror s.mirrors a) left_held.mirrors;
        components = left_held.components;
      })

-- ---- the command under its further keys

-- the rows of a command under further keys, the last of them first, before these
abbrev pub further_rows : List Further → ℕ → List ℕ → List CommandRow → List CommandRow
further_rows [] n words rows = rows
further_rows (f ∷ more) n words rows =
    further_rows more (n + 1) words (command_row (string_bytes f.key) n words f.reply ∷ rows)

pub with_further_is : (fs : List Further) (n : ℕ) (words : List ℕ) (t : Tables)
    → with_further fs n words t ≡ record t { commands = further_rows fs n words t.commands }
with_further_is [] n words t = refl
with_further_is (f ∷ more) n words t =
    with_further_is more (n + 1) words
    (with_command (command_row (string_bytes f.key) n words f.reply) t)

-- ---- the whole change

-- the rows of its command, before these
abbrev pub command_rows : Changed → List ℕ → ℕ → List ℕ → List CommandRow → List CommandRow
command_rows ch key n words rows =
    further_rows ch.further (n + 1) words (command_row key n words ch.reply ∷ rows)

abbrev committed : Changed → List ℕ → ℕ → List ℕ → Tables → Tables
committed ch key n words t = record {
  mirrors = (written ch t).mirrors;
  components = (written ch t).components;
  intents = intent_rows 1 ch.intents ++ t.intents;
  commands = command_rows ch key n words t.commands;
  patches = patch_rows ch.bytes ++ t.patches;
}

with_change_is : (ch : Changed) (key : List ℕ) (n : ℕ) (words : List ℕ) (t : Tables)
    → with_change ch key n words t ≡ committed ch key n words t
with_change_is ch key n words t =
    ap (λ (s : Tables). with_further ch.further (n + 1) words
    (with_command (command_row key n words ch.reply)
    (with_bytes ch.bytes (with_intents (intent_rows 1 ch.intents) s)))) (with_records_is ch t)
    ∙ with_further_is ch.further (n + 1) words
    (with_command (command_row key n words ch.reply)
    (with_bytes ch.bytes (with_intents (intent_rows 1 ch.intents) (written ch t))))

pub commands_with : (ch : Changed) (key : List ℕ) (n : ℕ) (words : List ℕ) (t : Tables)
    → (with_change ch key n words t).commands ≡ command_rows ch key n words t.commands
commands_with ch key n words t = ap (λ (a : Tables). a.commands) (with_change_is ch key n words t)

pub change_held : (ch : Changed) (key words : List ℕ) (s : Records) (t : Tables) → IsState s
    → HoldState s t → HoldState (changed_by ch s) (with_accepted ch key words t)
change_held ch key words s t state held =
    subst (λ (a : Tables). HoldState (changed_by ch s) a)
    (sym (with_change_is ch key (length t.commands + 1) words t))
    (record {
      mirrors = mirrors_written ch s t state.mirrors_in_order held.mirrors;
      components = components_written ch s t state.components_in_order held.components;
    })

pub change_intents : (ch : Changed) (key words : List ℕ) (t : Tables)
    → (with_accepted ch key words t).intents ≡ intent_rows 1 ch.intents ++ t.intents
change_intents ch key words t =
    ap (λ (a : Tables). a.intents) (with_change_is ch key (length t.commands + 1) words t)

pub change_patches : (ch : Changed) (key words : List ℕ) (t : Tables)
    → (with_accepted ch key words t).patches ≡ patch_rows ch.bytes ++ t.patches
change_patches ch key words t =
    ap (λ (a : Tables). a.patches) (with_change_is ch key (length t.commands + 1) words t)

pub change_commands : (ch : Changed) (key words : List ℕ) (t : Tables)
    → (with_accepted ch key words t).commands
    ≡ (with_further ch.further (length t.commands + 2) words
    (with_command (command_row key (length t.commands + 1) words ch.reply) t)).commands
change_commands ch key words t =
    let first = command_row key (length t.commands + 1) words ch.reply in
    let next : length t.commands + 1 + 1 ≡ length t.commands + 2 = omega arith in
    commands_with ch key (length t.commands + 1) words t
    ∙ (ap (λ n. further_rows ch.further n words (first ∷ t.commands)) next
    ∙ sym (ap (λ (a : Tables). a.commands)
    (with_further_is ch.further (length t.commands + 2) words (with_command first t))))
