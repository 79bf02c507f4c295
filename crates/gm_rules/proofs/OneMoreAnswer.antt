-- One more answered key.
use Rattle.gm_rules.proofs.Common.{◌≡◌, ◌∙◌, ⊎_elim, ℕ, ◌<◌, refl, sym, ap, subst, arith, List, ◌∷◌, length, Command, Has, World, Answered, AnswerFits, ReplyFits, AreAnswers, CanAnswer, answer}
use Rattle.gm_state.specs.declared.intents.Reply.{Reply}

pub answers_after : (u : World) (key : List ℕ) (c : Command) (r : Reply) → ReplyFits r
    → AreAnswers u.answered → CanAnswer u key c → AreAnswers (answer u key c r ∷ u.answered)
answers_after u key c r fits are can =
    let new : Answered = answer u key c r in
    record {
      count = (let room : length u.answered < 100000 = can.room in omega arith);
      fit = λ a h. ⊎_elim (λ (e : new ≡ a). subst (λ (x : Answered). AnswerFits x) e
          (record { key = can.key_ok; command = can.fits; reply = fits }))
          (λ (o : Has u.answered a). are.fit a o) h;
      numbers = (refl, are.numbers);
      keys = λ a b h k e. ⊎_elim
          (λ (x : new ≡ a). ⊎_elim
          (λ (y : new ≡ b). sym x ∙ y)
          (λ (o : Has u.answered b).
          absurd (can.free b o (sym e ∙ sym (ap (λ (z : Answered). z.key) x))))
          k)
          (λ (q : Has u.answered a). ⊎_elim
          (λ (y : new ≡ b). absurd (can.free a q (e ∙ sym (ap (λ (z : Answered). z.key) y))))
          (λ (o : Has u.answered b). are.keys a b q o e)
          k)
          h;
    }
