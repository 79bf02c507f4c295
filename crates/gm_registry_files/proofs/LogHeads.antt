-- The first bytes of logs.
use Rattle.std.proofs.Common.{◌≡◌, ◌∙◌, ◌⊎◌, ◌==◌, ◌/◌, ℕ, Bool, true, List, ap, inl, inr, arith, eq-eqb}
use Rattle.std.specs.Prelude.{slice_index}
use Rattle.std.proofs.lemmas.Bool.{and_from, and_parts, cases_eq, or_left, or_right}
use Rattle.sqlite_wal.specs.Format.{IsSigned}
use Rattle.gm_registry_files.specs.Obstacles.{is_gate, is_order, is_log_head, IsStopped}

-- one that is the old or the new passes, if both do
from_either : (test : ℕ → Bool) (old written left : ℕ) → test old ≡ true → test written ≡ true
    → (left ≡ old) ⊎ (left ≡ written) → test left ≡ true
from_either test old written left passes also (inl same) = ap test same ∙ passes
from_either test old written left passes also (inr same) = ap test same ∙ also

-- what they are one by one
record AreMagic (head : List ℕ) : Type 0 where
  pub second : (slice_index head 1 == 0x7f) ≡ true
  pub third : (slice_index head 2 == 0x06) ≡ true
  pub fourth : is_order (slice_index head 3) ≡ true

magic : (head : List ℕ) → is_log_head head ≡ true → AreMagic head
magic head passes =
    let rest = (and_parts _ _ passes).1 in
    let last = (and_parts _ _ rest).1 in
    record {
      second = (and_parts _ _ rest).0;
      third = (and_parts _ _ last).0;
      fourth = (and_parts _ _ last).1;
    }

whole : (head : List ℕ) → is_gate (slice_index head 0) ≡ true → AreMagic head
    → is_log_head head ≡ true
whole head gate are =
    and_from _ _ gate (and_from _ _ are.second (and_from _ _ are.third are.fourth))

-- one of two numbers has this half
order : (byte : ℕ) → byte / 2 ≡ 0x82 / 2 → is_order byte ≡ true
order byte half =
    elim (cases_eq byte 0x82) [
      | inl e ↦ or_left (byte == 0x82) (byte == 0x83) (eq-eqb byte 0x82 e)
      | inr e ↦ or_right (byte == 0x82) (byte == 0x83) (eq-eqb byte 0x83 (omega (arith, e, half)))
    ]

pub signed : (head : List ℕ) → IsSigned head → is_log_head head ≡ true
signed head is = whole head (ap is_gate is.first) (record {
  second = eq-eqb _ _ is.second;
  third = eq-eqb _ _ is.third;
  fourth = order _ is.fourth;
})

pub stopped : (old written left : List ℕ) → is_log_head old ≡ true → IsSigned written
    → IsStopped old written left → is_log_head left ≡ true
stopped old written left passes is stop =
    let before = magic old passes in
    let after = magic written (signed written is) in
    whole left stop.gate (record {
      second = from_either (λ b. b == 0x7f) (slice_index old 1) (slice_index written 1)
          (slice_index left 1) before.second after.second (stop.others 1 (omega arith));
      third = from_either (λ b. b == 0x06) (slice_index old 2) (slice_index written 2)
          (slice_index left 2) before.third after.third (stop.others 2 (omega arith));
      fourth = from_either is_order (slice_index old 3) (slice_index written 3)
          (slice_index left 3) before.fourth after.fourth (stop.others 3 (omega arith));
    })
