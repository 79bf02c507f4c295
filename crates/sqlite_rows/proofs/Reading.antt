-- Calls that only read: what one leaves, and one after another.
use Rattle.sqlite_rows.proofs.Common.{inl, inr, ◌∙◌, List, ℕ, sym, ap, subst, arith, Row, Schema, Trees, Database, Error, understood, State, HasCleanDisk, Shown, FailsToQuery, IsUnchanged, IsRolledBack, Survives, CommitsShowing, IsPlain, never_commits, unchanged_then, survives_then, survives_weaker, HasReadOver, HasFailedOver, LeavesAlone}
use Rattle.sqlite_rows.proofs.Refusing.{left_alone, asking_refusal}

-- ---- a text that is a plain query over each schema that is known

module _ (Known : Schema → Type 0) (sql : List ℕ) (params : Row)
    (plain : (s : Schema) → Known s → IsPlain (understood s sql)) where
  nothing_left : (old new : State) → Survives old new (CommitsShowing sql params old)
      → Survives old new (λ _. ¬ (Known old.now.schema))
  nothing_left old new left =
      survives_weaker old new _ _ (λ _ db commits known.
      never_commits sql params old db (plain old.now.schema known) commits) left

  pub read_by : (old new : State) (rows : List Row)
      → (HasCleanDisk new → Shown sql params old new rows)
      → Survives old new (CommitsShowing sql params old) → HasReadOver Known old new
  read_by old new rows shown left = record {
    unchanged = λ clean known. left_alone sql params old new rows (plain old.now.schema known)
        (shown clean);
    left = nothing_left old new left;
  }

  pub failed_by : (old new : State) (e : Error)
      → (HasCleanDisk new → FailsToQuery sql params old new e)
      → Survives old new (CommitsShowing sql params old) → HasFailedOver Known old new
  failed_by old new e fails left =
      record {
        refused = λ clean known _. asking_refusal sql params old new e (fails clean);
        left = nothing_left old new left;
      }

-- ---- one after another

rolled_then : (a b c : State) → IsUnchanged a b → IsRolledBack b c → IsRolledBack a c
rolled_then a b c u r = record {
  was_open = λ _. u.0.was_open;
  undone = λ is. ((r.undone is).0 ∙ u.0.committed_is, (r.undone is).1 ∙ u.0.committed_is);
  autocommit = r.autocommit;
  unmarked = r.unmarked;
  counts = record {
    changes = r.counts.changes ∙ u.1.changes;
    last_rowid = r.counts.last_rowid ∙ u.1.last_rowid;
  };
}

module _ (Known : Schema → Type 0) where
  pub known_still : (a b : State) → HasReadOver Known a b → HasCleanDisk b → Known a.now.schema
      → Known b.now.schema
  known_still a b first clean known =
      subst Known (sym (ap (λ (d : Database). d.schema) (first.unchanged clean known).0.now_is))
      known

  left_then : (a b c : State) → HasReadOver Known a b → Survives b c (λ _. ¬ (Known b.now.schema))
      → Survives a c (λ _. ¬ (Known a.now.schema))
  left_then a b c first second =
      survives_then a b c (λ _. ¬ (Known a.now.schema)) (λ _. ¬ (Known b.now.schema))
      (λ _. ¬ (Known a.now.schema)) (λ _ db none. none)
      (λ clean db none known. none (known_still a b first (omega (arith, second.clean)) known))
      first.left second

  pub read_then_over : (a b c : State) → HasReadOver Known a b → HasReadOver Known b c
      → HasReadOver Known a c
  read_then_over a b c first second = record {
    unchanged = λ clean known.
        let mid : HasCleanDisk b = omega (arith, second.left.clean) in
        unchanged_then a b c (first.unchanged mid known)
        (second.unchanged clean (known_still a b first mid known));
    left = left_then a b c first second.left;
  }

  pub failed_then_over : (a b c : State) → HasReadOver Known a b → HasFailedOver Known b c
      → HasFailedOver Known a c
  failed_then_over a b c first second = record {
    refused = λ clean known is.
        let mid : HasCleanDisk b = omega (arith, second.left.clean) in
        let u = first.unchanged mid known in
        elim (second.refused clean (known_still a b first mid known) is) [
          | inl v
              ↦ inl (unchanged_then a b c u v)
          | inr r ↦ inr (rolled_then a b c u r)
        ];
    left = left_then a b c first second.left;
  }

  -- a read is the least that a failed one does
  pub read_at_most : (a b : State) → HasReadOver Known a b → HasFailedOver Known a b
  read_at_most a b first = record {
    refused = λ clean known is. inl (first.unchanged clean known);
    left = first.left;
  }

  -- what was committed is as it was
  pub failed_leaves_over : (old new : State) → Known old.now.schema → HasFailedOver Known old new
      → LeavesAlone old new
  failed_leaves_over old new known failed = record {
    tables = λ clean is. elim (failed.refused clean known is) [
      | inl same
          ↦ same.0.committed_is
      | inr undone ↦ (undone.undone is).1
    ];
    crash = survives_weaker old new _ _ (λ _ db none. none known) failed.left;
  }

-- a schema that is known more closely
pub known_closer : (Known Closer : Schema → Type 0) → ((s : Schema) → Closer s → Known s)
    → (a b : State) → HasReadOver Known a b → HasReadOver Closer a b
known_closer Known Closer known a b first = record {
  unchanged = λ clean closer. first.unchanged clean (known a.now.schema closer);
  left = survives_weaker a b _ _ (λ _ db none closer. none (known a.now.schema closer)) first.left;
}

pub failed_closer : (Known Closer : Schema → Type 0) → ((s : Schema) → Closer s → Known s)
    → (a b : State) → HasFailedOver Known a b → HasFailedOver Closer a b
failed_closer Known Closer known a b first = record {
  refused = λ clean closer. first.refused clean (known a.now.schema closer);
  left = survives_weaker a b _ _ (λ _ db none closer. none (known a.now.schema closer)) first.left;
}

-- what is seen after a read was there before it
pub carried_over : (Known : Schema → Type 0) (a b : State) (P : Trees → Type 0)
    → HasReadOver Known a b → HasCleanDisk b → (Known b.now.schema → P b.now.trees)
    → Known a.now.schema → P a.now.trees
carried_over Known a b P first clean seen known =
    subst (λ (d : Database). P d.trees) (first.unchanged clean known).0.now_is
    (seen (known_still Known a b first clean known))
