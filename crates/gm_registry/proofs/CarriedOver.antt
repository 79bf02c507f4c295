-- A store of the first schema that is carried over holds the tables that it held.
use Rattle.gm_registry.proofs.Common.{◌≡◌, ◌∙◌, ◌⊎◌, inl, inr, true, List, [], ◌∷◌, IsTrue, refl, sym, ap, subst, arith, true≢false, Database, Row, Held, state, State, HasCleanDisk, KeepsCommit, Survives, IsUnchanged, IsRolledBack, survives_then, survives_weaker, IsSound, HasReadOver, survives_if, first_schema, FailsToCommit, Error, Ghosts, Trees, Keeps, columns, whole, keeps_none, Tables, about_values, mirror_values, component_values, intent_values, command_values, patch_values, Holds, HoldsFirst, SeesTables, SeesFirst, SeesRegistry, IsAsBefore, IsBeingMade, IsCarriedOver, IsFirstInside, IsNumbered, IsOfRegistry, SeesFirstRegistry, SeesFirstStore, First}
use Rattle.gm_registry.proofs.Abouts.{about_row}
use Rattle.gm_registry.proofs.InTransaction.{HasCommitted}

same_kept : {A : Type 0} (part : Row → Row) (values : A → Row) (all : List A) (old new : List Row)
    → new ≡ old → Keeps part values all old → Keeps part values all new
same_kept part values all old new same = subst (Keeps part values all) (sym same)

pub holds_over : (old new : Trees) (t : Tables) → HoldsFirst old t → IsCarriedOver old new
    → Holds new t
holds_over old new t holds over =
    let kept = holds.rows.rows in
    record {
      rows = record {
        rows = record {
          about = over.about;
          mirrors = same_kept columns mirror_values t.mirrors (old 1) (new 1) over.mirrors
              kept.mirrors;
          components = same_kept columns component_values t.components (old 4) (new 4)
              over.components kept.components;
          intents = same_kept whole intent_values t.intents (old 7) (new 7) over.intents
              kept.intents;
          commands = same_kept columns command_values t.commands (old 8) (new 8) over.commands
              kept.commands;
          patches = subst (λ l. Keeps whole patch_values l (new 11)) (sym kept.patches)
              (subst (Keeps whole patch_values []) (sym over.patches)
              (keeps_none whole patch_values));
        };
        numbered = holds.rows.numbered;
      };
      sound = over.sound;
    }

-- a registry that is seen there has those tables
pub sees_over : (old new : State) (t : Tables) → HoldsFirst old.committed.trees t
    → SeesRegistry new → IsCarriedOver old.committed.trees new.committed.trees → SeesTables new t
sees_over old new t holds is over = record {
  is_open = is.is_open;
  autocommit = is.autocommit;
  schema_is = is.schema_is;
  settled = is.settled;
  tables = holds_over old.committed.trees new.committed.trees t holds over;
}

-- ---- what was read of it

pub known_first : (s : State) → SeesFirstStore s → IsOfRegistry s.now.schema
known_first s was = (First, ap (λ (d : Database). d.schema) was.settled ∙ was.schema_is)

-- it is a registry of the first schema by the one record of `about`
pub first_registry : (old new : State) → SeesFirstStore old → IsUnchanged old new
    → IsNumbered First old.now.trees → SeesFirstRegistry new
first_registry old new was unchanged one =
    let same = unchanged.0 in
    let sound : IsSound first_schema new.committed.trees =
    subst (λ (d : Database). IsSound first_schema d.trees) (sym same.committed_is) was.sound in
    record {
      store = record {
        is_open = same.is_open;
        autocommit = same.mode ∙ was.autocommit;
        schema_is = ap (λ (d : Database). d.schema) same.committed_is ∙ was.schema_is;
        settled = same.now_is ∙ was.settled ∙ sym same.committed_is;
        sound = sound;
      };
      about = about_row First new.committed.trees sound
          (subst (λ (d : Database). IsNumbered First d.trees)
          (was.settled ∙ sym same.committed_is) one);
    }

-- a read of it, and then a call that carries over what the read found
module _ (s0 s1 s2 : State) (read : HasReadOver IsOfRegistry s0 s1)
    (about : HasCleanDisk s1 → IsOfRegistry s0.now.schema → IsNumbered First s0.now.trees) where
  pub first_found : HasCleanDisk s1 → SeesFirstStore s0 → SeesFirstRegistry s1
  first_found clean was =
      let known = known_first s0 was in
      first_registry s0 s1 was (read.unchanged clean known) (about clean known)

  pub same_stored : HasCleanDisk s1 → SeesFirstStore s0 → s1.committed ≡ s0.committed
  same_stored clean was = (read.unchanged clean (known_first s0 was)).0.committed_is

  pub carrying_left : Survives s1 s2 (λ _. Unit {0})
      → (SeesFirstRegistry s1 → Survives s1 s2 (IsCarriedOver s1.committed.trees))
      → SeesFirstStore s0 → Survives s0 s2 (IsCarriedOver s0.committed.trees)
  carrying_left survives left was =
      let P = IsCarriedOver s0.committed.trees in
      survives_then s0 s1 s2 (λ _. ¬ (IsOfRegistry s0.now.schema)) P P
      (λ _ db none. absurd (none (known_first s0 was))) (λ clean db p. p) read.left
      (survives_if s1 s2 P survives (λ late.
      let early : HasCleanDisk s1 = omega (arith, survives.clean, late) in
      survives_weaker s1 s2 _ _ (λ clean db over.
      subst (λ (d : Database). IsCarriedOver d.trees db) (same_stored early was) over)
      (left (first_found early was))))

-- ---- if it isn't carried over

pub as_before : (old new : State) → SeesFirstStore old → IsTrue new.is_open
    → IsUnchanged old new ⊎ IsRolledBack old new → IsAsBefore old new
as_before old new was is_open (inl same) = record {
  is_open = is_open;
  autocommit = same.0.mode ∙ was.autocommit;
  settled = same.0.now_is ∙ was.settled ∙ sym same.0.committed_is;
  committed_is = same.0.committed_is;
}
as_before old new was is_open (inr undone) = record {
  is_open = is_open;
  autocommit = undone.autocommit;
  settled = (undone.undone is_open).0 ∙ sym (undone.undone is_open).1;
  committed_is = (undone.undone is_open).1;
}

pub first_still : (old new : State) (t : Tables) → SeesFirst old t → IsAsBefore old new
    → SeesFirst new t
first_still old new t was same = record {
  is_open = same.is_open;
  autocommit = same.autocommit;
  schema_is = ap (λ (d : Database). d.schema) same.committed_is ∙ was.schema_is;
  settled = same.settled;
  tables = subst (λ (d : Database). HoldsFirst d.trees t) (sym same.committed_is) was.tables;
}

-- ---- within its transaction

-- it begins over the store that was there
pub first_begun : {S : Type 0} (g : Ghosts S) (old : Held S) → SeesFirstRegistry (state g old)
    → IsFirstInside (state g old).committed (state g (record old { in_transaction = true }))
first_begun g old was = record {
  over = record {
    is_open = was.store.is_open;
    inside = refl;
    first_is = refl;
    schema_is = ap (λ (d : Database). d.schema) was.store.settled ∙ was.store.schema_is;
  };
  seen = was.store.settled;
  about = was.about;
}

-- what it makes is the store carried over
pub carried_inside : (first : Database) (s : State)
    → IsBeingMade (about_values ∷ []) first.trees first s → IsCarriedOver first.trees s.now.trees
carried_inside first s was = record {
  sound = was.sound;
  about = was.about_is;
  mirrors = was.mirrors;
  components = was.components;
  intents = was.intents;
  commands = was.commands;
  patches = was.patches;
}

-- a commit of it is a registry
pub committed_over : (old mid end : State) → IsBeingMade (about_values ∷ []) old.committed.trees
    old.committed mid → HasCommitted mid end
    → SeesRegistry end × IsCarriedOver old.committed.trees end.committed.trees
committed_over old mid end was h =
    let shown = h.1 in
    let over = carried_inside old.committed mid was in
    let now : end.committed ≡ mid.now = shown.committed_is in
    let carried = subst (λ (d : Database). IsCarriedOver old.committed.trees d.trees) (sym now)
    over in (
      record {
        is_open = shown.is_open;
        autocommit = shown.mode;
        schema_is = ap (λ (d : Database). d.schema) now ∙ was.schema_is;
        settled = shown.now_is ∙ sym shown.committed_is;
        sound = carried.sound;
        about = carried.about;
      },
      carried,
    )

-- a rollback leaves the store as it was
pub undone_first : (old begun mid new : State) → begun.committed ≡ old.committed
    → KeepsCommit begun mid → IsRolledBack mid new → IsTrue new.is_open → IsAsBefore old new
undone_first old begun mid new same kept undone is_open =
    let back : mid.committed ≡ old.committed = kept.committed (undone.was_open is_open) ∙ same in
    record {
      is_open = is_open;
      autocommit = undone.autocommit;
      settled = (undone.undone is_open).0 ∙ sym (undone.undone is_open).1;
      committed_is = (undone.undone is_open).1 ∙ back;
    }

-- so does a commit that failed
pub not_committed_first : (old begun mid new : State) (e : Error)
    → begun.committed ≡ old.committed → KeepsCommit begun mid → mid.in_transaction ≡ true
    → FailsToCommit mid new e → IsTrue new.is_open → IsAsBefore old new
not_committed_first old begun mid new e same kept inside (inl fails) is_open =
    undone_first old begun mid new same kept fails.3 is_open
not_committed_first old begun mid new e same kept inside (inr late) is_open =
    absurd (true≢false (sym inside ∙ late.1))

-- ---- room for more rows
