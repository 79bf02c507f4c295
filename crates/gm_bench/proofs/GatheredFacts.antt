-- What is gathered to decide on a command serves to decide on it.
use Rattle.gm_bench.proofs.Common.{◌≡◌, ◌∙◌, ℕ, List, [], Option, None, map, refl, sym, option_map, Ghosts, Held, Image, Sizes, IsLawful, Command, Adopt, Intent, Mirror, Records, IsState, provider, Has, World, Has-append_left, Fact, found_mids, source_in, awaited, takes_mid, IsPartOf, IsPartToDecide, part_of, seen_in, AreFacts, needed_by, AreRecordsOf, settled, Compared, adopted_from, compared_with, whole, Leads, IsCarriedOut, IsHonestToAdopt, Tell}
use Rattle.gm_shelf.specs.declared.shelf.Shelf.{Ghosts as ShelfGhosts}
use Rattle.gm_bench.proofs.Asked.{serves, takes_alike}
use Rattle.gm_bench.proofs.CarriedOut.{settled_leads}
use Rattle.gm_bench.proofs.FactsLookedUp.{are_facts}

-- a command needs the providers that it adopts from
adopted_needed : (s : Records) (c : Command) (p : List ℕ) → Has (adopted_from c) p
    → Has (needed_by s c) p
adopted_needed s (Adopt n ps) p h = Has-append_left ps (map provider (awaited s (Adopt n ps))) p h
adopted_needed s _ p h = absurd h

module _ {S H : Type 0} (g : Ghosts S) (j : ShelfGhosts H) (r : Held S) (h : H)
    (away : Image) (ts : List Intent) (bytes : List (List ℕ)) (v u : World)
    (at : IsCarriedOut g j r h away ts bytes v u) (lawful : IsLawful (j.view h)) where
  leads : Leads (settled at.tables) [] [] (whole (j.size h) away (j.view h).seen) u
  leads =
      settled_leads g j r h away ts bytes v u at lawful (j.view h).seen lawful.holds_now

  pub are_records : AreRecordsOf at.tables u.state
  are_records = record {
    state = leads.sound.state;
    rows = record { mirrors = leads.records.mirrors; components = leads.records.components };
  }

  pub gathered : (first facts : List Fact) (c : Command) (part : Records)
      (against : Option Compared)
      → against ≡ option_map compared_with (source_in (seen_in first) (adopted_from c))
      → part ≡ part_of u.state c (found_mids (seen_in first) (adopted_from c))
      → ((q : List ℕ) → Has (adopted_from c) q → Tell first (j.size h) (j.view h).seen None q)
      → ((s : Records) → IsPartOf part c s → (q : List ℕ) → Has (needed_by s c) q
      → Tell facts (j.size h) (j.view h).seen against q)
      → IsPartToDecide part (seen_in facts) c u.state × AreFacts facts u c
  gathered first facts c part against is read before tell =
      let of : IsPartOf part c u.state = record {
        state = leads.sound.state;
        mids = found_mids (seen_in first) (adopted_from c);
        is = read;
      } in
      let now = tell u.state of in (
        serves u.state part c (seen_in first) (seen_in facts) leads.sound.state read
            (takes_alike (seen_in facts) (seen_in first) c
            (λ p h. (now p (adopted_needed u.state c p h)).last_is ∙ sym (before p h).last_is)),
        are_facts (settled at.tables) u (j.size h) away (j.view h).seen at.sizes leads facts first c
            against is
            before now,
      )

-- what two looks at images to be adopted report alike, if the shelf is honest
takes_told : {H : Type 0} (h : ShelfGhosts H) (shelf : H) (c : Command) (first facts : List Fact)
    (against : Option Compared) (size : Sizes) (seen : Image) → IsHonestToAdopt h shelf c
    → (h.honest shelf → (q : List ℕ) → Has (adopted_from c) q → Tell first size seen None q)
    → (h.honest shelf → (q : List ℕ) → Has (adopted_from c) q → Tell facts size seen against q)
    → (m : Mirror) → takes_mid (seen_in facts) c m ≡ takes_mid (seen_in first) c m
takes_told h shelf (Adopt n ps) first facts against size seen honest before now m =
    takes_alike (seen_in facts) (seen_in first) (Adopt n ps)
    (λ p k. (now honest p k).last_is ∙ sym (before honest p k).last_is) m
takes_told h shelf _ first facts against size seen honest before now m = refl

-- so the part that was read after the first serves after the second
pub told_part : {H : Type 0} (h : ShelfGhosts H) (shelf : H) (s part : Records) (c : Command)
    (first facts : List Fact) (against : Option Compared) (size : Sizes) (seen : Image)
    → IsState s → part ≡ part_of s c (found_mids (seen_in first) (adopted_from c))
    → IsHonestToAdopt h shelf c
    → (h.honest shelf → (q : List ℕ) → Has (adopted_from c) q → Tell first size seen None q)
    → (h.honest shelf → (q : List ℕ) → Has (needed_by part c) q → Tell facts size seen against q)
    → IsPartToDecide part (seen_in facts) c s
told_part h shelf s part c first facts against size seen state read honest before now =
    serves s part c (seen_in first) (seen_in facts) state read
    (takes_told h shelf c first facts against size seen honest before
    (λ is p k. now is p (adopted_needed part c p k)))
