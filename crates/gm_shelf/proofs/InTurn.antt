-- Calls one after another, of which some are reads or syncs.
use Rattle.gm_shelf.proofs.Common.{◌∙◌, ◌⊎◌, ◌≤◌, inl, inr, ⊎_elim, ℕ, refl, arith, Image, View, Elapses, IsQuiet, AreReads, IsLawful}

-- nothing is done
pub elapses_itself : (v : View) → Elapses v v
elapses_itself v = record {
  later = omega arith;
  nothing_else = λ t x le left. inl left;
  keeps = λ t x le left. left;
}

pub quiet_itself : (v : View) → IsQuiet v v
quiet_itself v = record { seen = λ q j. refl; crash = λ x left. left; time = elapses_itself v }

pub reads_itself : (v : View) → AreReads v v
reads_itself v = record { quiet = quiet_itself v; kept = λ x left. left }

-- time that goes on twice: what may be left in between was left before, or may be left still
pub elapses_then : (a b c : View) → ((t : ℕ) (x : Image) → t ≤ a.moment → b.may_leave x
    → a.left_since t x ⊎ c.may_leave x) → Elapses a b → Elapses b c → Elapses a c
elapses_then a b c between one two = record {
  later = omega (arith, one.later, two.later);
  nothing_else = λ t x le left.
      ⊎_elim
      (λ (was : b.left_since t x). ⊎_elim (λ (first : a.left_since t x). inl first)
      (λ (mid : b.may_leave x). between t x le mid) (one.nothing_else t x le was))
      (λ (now : c.may_leave x). inr now)
      (two.nothing_else t x (omega (arith, le, one.later)) left);
  keeps = λ t x le left. two.keeps t x (omega (arith, le, one.later)) (one.keeps t x le left);
}

-- reads after reads are reads
pub reads_then : (a b c : View) → AreReads a b → AreReads b c → AreReads a c
reads_then a b c one two = record {
  quiet = record {
    seen = λ q j. two.quiet.seen q j ∙ one.quiet.seen q j;
    crash = λ x left. one.quiet.crash x (two.quiet.crash x left);
    time = elapses_then a b c (λ t x le mid. inr (two.kept x mid)) one.quiet.time two.quiet.time;
  };
  kept = λ x left. two.kept x (one.kept x left);
}

-- an image of any moment of quiet calls was left before them
pub quiet_moment : (a b : View) → IsLawful a → IsQuiet a b → (x : Image) → b.left_since a.moment x
    → a.may_leave x
quiet_moment a b lawful quiet x left =
    ⊎_elim
    (λ (was : a.left_since a.moment x). lawful.only_now x was)
    (λ (now : b.may_leave x). quiet.crash x now)
    (quiet.time.nothing_else a.moment x (omega arith) left)
