-- What the loss of one provider makes of the world and of the pending intents.
use Rattle.gm_stop_law.proofs.Common.{◌≡◌, ◌∙◌, inl, inr, ◌+◌, refl, sym, ap, List, [], ◌∷◌, ◌++◌, map, Some, put, without, option_cases, Lost, Answered, Records, World, members, mirror_of, name, provider, Intent, Mirror, NoMirror, metas, IsOfLoss, of_genid, remaining}

module _ (v w : World) (before ts : List Intent) (l : IsOfLoss v w before ts) where
  -- the mirror that lost it was registered
  pub lost_mirror : (m : Mirror) × (mirror_of v.state l.name ≡ Some m)
  lost_mirror =
      elim (option_cases (mirror_of v.state l.name)) [
        | inl none ↦ absurd (l.step.good NoMirror (record { listed = refl; met = rw none refl }))
        | inr some ↦ some
      ]

  -- its genid rose by one
  pub mirrors_are : w.state.mirrors
      ≡ put name (of_genid (lost_mirror.0.genid + 1) lost_mirror.0) v.state.mirrors
  mirrors_are =
      let some = lost_mirror.1 in
      ap (λ (s : Records). s.mirrors) (l.state ∙ l.step.records) ∙ rw some refl

  -- the provider is no component any more
  pub components_are : w.state.components ≡ without provider l.provider v.state.components
  components_are =
      let some = lost_mirror.1 in
      ap (λ (s : Records). s.components) (l.state ∙ l.step.records) ∙ rw some refl

  -- the metadata of the mirror's other components follow what stays
  pub intents_are : ts
      ≡ remaining l.provider l.next before ++ metas (members w.state.components l.name)
  intents_are = l.intents
      ∙ ap (λ (s : Records). remaining l.provider l.next before
      ++ metas (members s.components l.name)) (sym l.state)

  -- the loss is the last command that was accepted
  pub commands_are : map (λ (a : Answered). a.command) w.answered
      ≡ Lost l.name (l.provider ∷ []) ∷ map (λ (a : Answered). a.command) v.answered
  commands_are = ap (map (λ (a : Answered). a.command)) (l.answered ∙ l.step.answered)
