-- What was listed so far is what is unlike of the components that were looked at; and an audit
-- lists the names of what is unlike.
use Rattle.gm_looks.proofs.Common.{◌≡◌, ◌∙◌, inl, inr, ⊎_elim, ℕ, ◌≤◌, Bool, true, List, length, map, take, subst, Image, Sizes, Has, label_lt, AscendsBy-map, Has-map, map-Has, Mirror, Component, IsState, Records, IsAsRegistered, IsAudit, IsUnlike, TellsUnlike, Unlike}
use Rattle.gm_looks.proofs.Listed.{SoFar, all_looked_at, some_sectors}
use Rattle.gm_looks.proofs.StandingTells.{tells_registered}

abbrev pub on : Unlike → List ℕ
on e = e.provider

module _ (meant : Component → Bool) (s : Records) (size : Sizes) (seen : Image) where
  -- what holds of a component without an entry
  abbrev pub Right : Mirror → Component → Type 0
  Right m k = meant k ≡ true → IsAsRegistered size seen m k

  abbrev pub Listed : List Component → List Unlike → Type 0
  Listed done list = SoFar on (TellsUnlike meant size seen) Right s done list

  pub all_unlike : (i : ℕ) (list : List Unlike) → length s.components ≤ i
      → Listed (take i s.components) list → IsUnlike meant s size seen list
  all_unlike i list high so = record {
    told = so.told;
    others = λ m k o is. ⊎_elim (λ (right : Right m k). inl (right is))
        (λ (e : (x : Unlike) × Has list x × (x.provider ≡ k.provider)). inr e)
        (all_looked_at on (TellsUnlike meant size seen) Right s i list high so m k o);
    ascend = so.ascend;
  }

  -- if all are meant, the names are those of an audit
  pub audited : IsState s → ((k : Component) → meant k ≡ true) → (list : List Unlike)
      → IsUnlike meant s size seen list → IsAudit s size seen (map on list)
  audited state all list unlike = record {
    amiss = λ p h.
        let from = Has-map on list p h in
        let told = unlike.told from.0 from.1 in (
          told.0,
          told.1,
          told.2,
          told.3 ∙ from.2,
          λ is. told.4.other
              ((tells_registered size seen told.0 told.1 (some_sectors s state told.0 told.1 told.2)
              from.0.standing told.4.stands).1 is),
        );
    others = λ m k o. ⊎_elim (λ (right : IsAsRegistered size seen m k). inl right)
        (λ (e : (x : Unlike) × Has list x × (x.provider ≡ k.provider)).
        inr (subst (Has (map on list)) e.2 (map-Has on list e.0 e.1)))
        (unlike.others m k o (all k));
    ascend = AscendsBy-map on label_lt list unlike.ascend;
  }
