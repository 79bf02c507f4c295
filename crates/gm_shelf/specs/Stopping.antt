-- A shelf that is wrapped in one whose calls fail.
use Rattle.std.specs.Prelude.{ℕ, ◌+◌}
use Rattle.gm_shelf.specs.Disk.{View, IsLawful}

-- the same view, with the failures of the wrapper
abbrev pub with_failures : View → ℕ → View
with_failures v n = record {
  seen = v.seen;
  may_leave = v.may_leave;
  moment = v.moment;
  left_since = v.left_since;
  faults = v.faults + n;
}

pub lawful_with : (v : View) (n : ℕ) → IsLawful v → IsLawful (with_failures v n)
lawful_with v n law = record {
  holds_now = law.holds_now;
  counts_now = law.counts_now;
  only_now = law.only_now;
}
