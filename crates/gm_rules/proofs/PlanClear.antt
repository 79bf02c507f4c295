-- The plan of clear: no mirror turns.
use Rattle.gm_rules.proofs.Common.{◌≡◌, ◌≢◌, ◌∙◌, inl, inr, ⊎_elim, ℕ, ◌<◌, ◌≤◌, true, false, refl, sym, ap, subst, arith, List, [], ◌∷◌, true≢false, or-false, same_label, is_label, Mirror, Has, World, present, same_from, differ, not_both, seen_of, new_name, no_members, some_and}
use Rattle.gm_metadata.specs.declared.balance.Balance.TheVariants as balances
use Rattle.gm_commands.specs.declared.command.Command.TheVariants.{Clear}
use Rattle.gm_rules.proofs.PlanOf.{Allowed, IsCleared, PlanOf, Nothing}
use Rattle.gm_rules.proofs.RuledOut.{IsFree, is_free}

-- a record whose name no mirror has
nobody : Mirror
nobody = record {
  name = [];
  mid = 0;
  all = 0;
  genid = 0;
  syncid = 0;
  slice = 0;
  balance = balances.None;
  data_sectors = 0;
  flags =
      record { no_autosync = false; no_failsync = false };
}

no_name : nobody.name ≡ []
unfolding nobody
no_name = refl

module _ (u : World) (p : List ℕ) (may : Allowed u (Clear p)) where
  has_name : (a : Mirror) → Has u.state.mirrors a → a.name ≢ nobody.name
  has_name a h e =
      let label : is_label a.name ≡ true = (may.sound.state.each a h).fits.name in
      true≢false (sym label ∙ ap is_label (e ∙ no_name))

  free : IsFree u.state (seen_of u) p
  free = is_free u.state (seen_of u) (Clear p) may.good refl refl refl refl p (inl refl)

  is_cleared : IsCleared u u.state p
  is_cleared = record {
    there = some_and (present u p) free.sectors (λ n. 0 < n) free.size
        (let some : 2 ≤ free.sectors = free.some in omega arith);
    label = may.fits;
    free = λ k h e. not_both (same_label k.provider p) (same_from k.provider p e)
        (new_name u.state p free.none k h);
  }

  pub clear_plan : PlanOf u (Clear p)
  clear_plan = record {
    mirror = nobody;
    components = [];
    list = u.holds nobody.name;
    records = u.state;
    fill = Nothing;
    gone = p ∷ [];
    told = [];
    turns = record {
      state = may.sound.state;
      mirror = λ a h. inr (has_name a h, h);
      mine = no_members u.state.components nobody.name
          (λ k h. differ k.mirror nobody.name (λ e. let home = may.sound.state.homes k h in
          has_name home.0 home.1 (home.2 ∙ e)));
      others = λ n d. refl;
    };
    after_is = refl;
    intents = refl;
    bytes = refl;
    named = λ k h. absurd h;
    reply = tt;
    there = λ k h. absurd h;
    below = λ k h. absurd h;
    same_data = λ a h e. absurd (has_name a h e);
    new = λ w e. tt;
    bare = λ w e. tt;
    can_fill = tt;
    filled = λ q j. refl;
    cleared = λ q h. ⊎_elim (λ (e : p ≡ q). subst (IsCleared u u.state) e is_cleared)
        (λ (o : ⊥). absurd o) h;
    all_gone = λ q. or-false (same_label p q);
    told_are = λ k h. h;
    all_told = λ k h. absurd h;
  }
