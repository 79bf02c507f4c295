-- What `decide` answers.
use Rattle.std.specs.Prelude.{◌≡◌, ℕ, List, [], Option, Some, None, IfSome, Result, Ok, Err}
use Rattle.gm_taste.specs.declared.tasted.Member.{Member}
use Rattle.gm_commands.specs.declared.command.Command.{Command}
use Rattle.gm_state.specs.declared.intents.Intent.{Intent}
use Rattle.gm_state.specs.declared.intents.Reply.{Reply}
use Rattle.gm_state.specs.declared.intents.Reply.TheVariants.{Plain}
use Rattle.gm_state.specs.declared.records.Mirror.{Mirror}
use Rattle.gm_state.specs.declared.records.Component.{Component}
use Rattle.gm_lists.specs.Ordered.{Has, Ascends, put, put_all, without, without_all}
use Rattle.gm_state.specs.Records.{Records, name, provider}
use Rattle.gm_refusals.specs.declared.refusals.Refusal.{Refusal}
use Rattle.gm_refusals.specs.Seen.{Seen}
use Rattle.gm_refusals.specs.Adoptable.{adopted_mirror, adopted}
use Rattle.gm_changes.specs.declared.change.Further.{Further}
use Rattle.gm_changes.specs.After.{after, bytes_of, intents_of, metas, reply_to}
use Rattle.gm_refusals.specs.Applies.{IsLeast, IsGood}

-- records to put, names of records to delete, intents, the sectors that they lay over data, reply,
-- and under which further keys the command is accepted as well
pub record Changed : Type 0 where
  pub mirror : Option Mirror
  pub gone_mirror : Option (List ℕ)
  pub components : List Component
  pub gone_components : List (List ℕ)
  pub intents : List Intent
  pub bytes : List (List ℕ)
  pub reply : Reply
  pub further : List Further

-- nothing is put, deleted or written, and the answer is plain
abbrev pub no_change : Changed
no_change = record {
  mirror = None;
  gone_mirror = None;
  components = [];
  gone_components = [];
  intents = [];
  bytes = [];
  reply = Plain;
  further = [];
}

-- the change of an adoption whose source is b
abbrev pub adopting : Seen → List ℕ → List (List ℕ) → Member → Changed
adopting x n ps b = record no_change {
  mirror = Some (adopted_mirror n b.metadata);
  components = adopted x n ps b;
  intents = metas (adopted x n ps b);
}

abbrev pub put_some : Option Mirror → List Mirror → List Mirror
put_some None ms = ms
put_some (Some m) ms = put name m ms

abbrev pub without_some : Option (List ℕ) → List Mirror → List Mirror
without_some None ms = ms
without_some (Some n) ms = without name n ms

-- the records with the change made: what is gone goes first
abbrev pub changed_by : Changed → Records → Records
changed_by ch s = record {
  mirrors = put_some ch.mirror (without_some ch.gone_mirror s.mirrors);
  components =
      put_all provider ch.components (without_all provider ch.gone_components s.components);
}

-- If a mirror goes, nothing is put; components are put of one mirror, each once, and one that is
-- put in place of another has the mirror and the number of that one.
pub record PutsInPlace (s : Records) (ch : Changed) : Type 0 where
  pub alone : IfSome ch.gone_mirror (λ n. (ch.mirror ≡ None) × (ch.components ≡ []))
  pub of_one : (j k : Component) → Has ch.components j → Has ch.components k
      → j.mirror ≡ k.mirror
  pub once : Ascends provider ch.components
  pub numbers : (k j : Component) → Has ch.components k → Has s.components j
      → j.provider ≡ k.provider → (j.mirror ≡ k.mirror) × (j.did ≡ k.did)

-- no refusal applies, and the change is what the command makes of the records, with its intents,
-- their bytes and its reply, once
pub record Makes (s : Records) (x : Seen) (c : Command) (ch : Changed) : Type 0 where
  pub good : IsGood s x c
  pub records : changed_by ch s ≡ after x c s
  pub in_place : PutsInPlace s ch
  pub intents : ch.intents ≡ intents_of c s (after x c s)
  pub bytes : ch.bytes ≡ bytes_of c
  pub reply : ch.reply ≡ reply_to c s
  pub once : ch.further ≡ []

-- the least refusal, or the change
abbrev pub Decides : Records → Seen → Command → Result Changed Refusal → Type 0
Decides s x c (Ok ch) = Makes s x c ch
Decides s x c (Err r) = IsLeast s x c r
