-- Reads one after another.
use Rattle.gm_registry.proofs.Common.{inl, inr, ◌∙◌, IsTrue, refl, sym, ap, subst, arith, IsSound, Trees, Database, State, HasCleanDisk, Survives, survives_weaker, LeavesAlone, read_then_over, failed_then_over, read_at_most, failed_leaves_over, carried_over, settled_schema, settled_rows, rolled, kept_itself, unchanged_has, Tables, registry_schema, SeesTables, HasCounted, SeesRegistry, IsOurSchema, IsOurs, HasRead, HasFailed}

pub read_then : (a b c : State) → HasRead a b → HasRead b c → HasRead a c
read_then = read_then_over IsOurSchema

pub failed_then : (a b c : State) → HasRead a b → HasFailed b c → HasFailed a c
failed_then = failed_then_over IsOurSchema

pub clean_before : (a b : State) → HasRead a b → HasCleanDisk b → HasCleanDisk a
clean_before a b first clean = omega (arith, first.left.clean)

-- what is seen after a read was there before it
pub carried : (a b : State) (P : Trees → Type 0) → HasRead a b → HasCleanDisk b
    → (IsOurs b → P b.now.trees) → IsOurs a → P a.now.trees
carried = carried_over IsOurSchema

-- ---- over the tables of a registry

pub ours : (s : State) (t : Tables) → SeesTables s t → IsOurs s
ours s t was = settled_schema registry_schema HasCounted s t was

pub counted : (s : State) (t : Tables) → SeesTables s t → HasCounted s.now.trees t
counted s t was = (settled_rows registry_schema HasCounted s t was).rows

pub tables_stay : (old new : State) (t : Tables) → HasRead old new → HasCleanDisk new
    → SeesTables old t → SeesTables new t
tables_stay old new t read clean was =
    unchanged_has registry_schema HasCounted old new t was (read.unchanged clean (ours old t was))

pub tables_refused : (old new : State) (t : Tables) → HasFailed old new → HasCleanDisk new
    → SeesTables old t → IsTrue new.is_open → SeesTables new t
tables_refused old new t failed clean was is = elim (failed.refused clean (ours old t was) is) [
  | inl same ↦ unchanged_has registry_schema HasCounted old new t was same
  | inr undone ↦ rolled registry_schema HasCounted old old old new t was refl
      (kept_itself old) undone is
]

pub nothing_new : (old new : State) (t : Tables) → Survives old new (λ _. ¬ (IsOurs old))
    → SeesTables old t → Survives old new (λ _. ⊥)
nothing_new old new t left was =
    survives_weaker old new _ _ (λ _ db none. none (ours old t was)) left

-- ---- over whatever rows a registry holds

-- what sees tables sees a registry
pub sees_registry : (s : State) (t : Tables) → SeesTables s t → SeesRegistry s
sees_registry s t was = record {
  is_open = was.is_open;
  autocommit = was.autocommit;
  schema_is = was.schema_is;
  settled = was.settled;
  sound = was.tables.sound;
  about = was.tables.rows.rows.about;
}

pub registry_ours : (s : State) → SeesRegistry s → IsOurs s
registry_ours s was = ap (λ (d : Database). d.schema) was.settled ∙ was.schema_is

-- an answered read leaves one
pub registry_stays : (old new : State) → HasRead old new → HasCleanDisk new → SeesRegistry old
    → SeesRegistry new
registry_stays old new read clean was =
    let same = (read.unchanged clean (registry_ours old was)).0 in
    record {
      is_open = same.is_open;
      autocommit = same.mode ∙ was.autocommit;
      schema_is = ap (λ (d : Database). d.schema) same.committed_is ∙ was.schema_is;
      settled = same.now_is ∙ was.settled ∙ sym same.committed_is;
      sound = subst (λ (d : Database). IsSound registry_schema d.trees) (sym same.committed_is)
          was.sound;
      about = ap (λ (d : Database). d.trees 0) same.committed_is ∙ was.about;
    }

pub failed_leaves : (old new : State) → HasFailed old new → SeesRegistry old → LeavesAlone old new
failed_leaves old new failed was =
    failed_leaves_over IsOurSchema old new (registry_ours old was) failed

pub read_leaves : (old new : State) → HasRead old new → SeesRegistry old → LeavesAlone old new
read_leaves old new read was = failed_leaves old new (read_at_most IsOurSchema old new read) was
