use Rattle.gm_bench.proofs.Common.{rules, ◌≡◌, ◌∙◌, Err, List, ℕ, None, option_map, sym, ap, subst, Held, Records, IsState, Has, found_mids, source_in, IsPartOf, part_of, seen_in, needed_by, DiskKept, HasTables, adopted_from, compared_with, Tell, TellSizes, Sizes, whole_is_part}
use Rattle.gm_bench.proofs.Causes.{fault_is}
use Rattle.gm_bench.proofs.FactsLookedUp.{itself_told}
use Rattle.gm_bench.proofs.PlannedAlone.{read_state, read_few, read_most}
use Rattle.gm_bench.proofs.GatheredFacts.{are_records, gathered, told_part}
use Rattle.gm_bench.proofs.FactsAreWorlds.{tell_moved}
use Rattle.gm_bench.proofs.media.Media.gather.Goals as goal

pub returns-in_err-part : goal.returns-in_err-part
returns-in_err-part g c =
    record {
      known = search rules;
      serves = search rules;
      readable = λ clean is t s has records.
          let has1 : HasTables g.S.Store c.look_at.new.self.registry t =
          subst (λ (k : Held g.row.S.Denot). HasTables g.S.Store k t)
          (sym c.look_at.ensures.registry) has in
          c.in_err-part.ensures.readable clean (ap Err (fault_is c.from_residual-in_err-part.result
          _ _ c.from_residual-in_err-part.ensures.1 is)) t s has1 records;
      looks = search rules;
    }

pub returns : goal.returns
returns g c =
    record {
      known = λ h clean away ts bytes v u at.
          let j = g.H.Shelf in
          let shelf = c.args.self.now.shelf in
          let read = c.look_at.new.self.shelf in
          let command = c.args.command.now in
          let first = c.in_ok-first.first in
          let facts = c.in_ok-facts.facts in
          let part = c.in_ok-part.part.state in
          let against = c.compared_with-against.result in
          let quiet = (c.look_at.ensures.looks.only.reads h).quiet in
          let has : HasTables g.S.Store c.look_at.new.self.registry at.tables =
          subst (λ (k : Held g.row.S.Denot). HasTables g.S.Store k at.tables)
          (sym c.look_at.ensures.registry) at.has in
          let records = are_records g.S.Store j c.args.self.now.registry shelf away ts bytes v u at
          (g.met.H.Shelf.lawful shelf h) in
          let clean1 : DiskKept g.S.Store c.part.new.self.registry =
          subst (λ (k : Held g.row.S.Denot). DiskKept g.S.Store k) c.look.ensures.registry clean in
          let h1 : g.H.Shelf.honest read = c.look_at.ensures.looks.only.keeps.honest h in
          let known = c.in_ok-part.ensures.part clean1 at.tables u.state has records in
          let mids : c.deref.result.now ≡ found_mids (seen_in first) (adopted_from command) =
          c.deref.ensures.value ∙ (c.in-Ok.ensures
          ∙ ap (found_mids (seen_in first)) c.adopted_from-providers.ensures) in
          let source : against ≡ option_map compared_with
          (source_in (seen_in first) (adopted_from command)) =
          c.compared_with-against.ensures ∙ ap (option_map compared_with)
          (c.adopt_source.ensures ∙ ap (source_in (seen_in first))
          c.adopted_from-providers.ensures) in
          let before : (q : List ℕ) → Has (adopted_from command) q
          → Tell first (j.size shelf) (j.view shelf).seen None q =
          λ q k. c.in_ok-first.ensures.tell h q (subst (λ (l : List (List ℕ)). Has l q)
          (sym c.adopted_from-providers.ensures) k) in
          let h2 : g.H.Shelf.honest c.part.new.self.shelf =
          subst g.H.Shelf.honest (sym c.part.ensures.shelf) h1 in
          let then : (s : Records) → IsPartOf part command s → (q : List ℕ) → Has
          (needed_by s command) q → Tell facts (j.size read) (j.view read).seen against q =
          subst (λ (k : g.row.H.Denot). (s : Records) → IsPartOf part command s → (q : List ℕ)
          → Has (needed_by s command) q → Tell facts (j.size k) (j.view k).seen against q)
          c.part.ensures.shelf (c.in_ok-facts.ensures.tell h2) in
          let both = gathered g.S.Store j c.args.self.now.registry shelf away ts bytes v u at
          (g.met.H.Shelf.lawful shelf h) first facts command part against source
          (known.0.state ∙ ap (part_of u.state command) mids) before
          (λ s of q k. tell_moved (j.size shelf) (j.size read) (j.view shelf).seen
          (j.view read).seen against facts q c.look_at.ensures.looks.only.keeps.size quiet.seen
          (then s of q k)) in (
            record { part = both.0; mirrors = known.0.mirrors; facts = both.1 },
            subst (λ (k : Held g.row.S.Denot). HasTables g.S.Store k at.tables)
                (sym c.look.ensures.registry) known.1,
          );
      serves = λ clean t s has records.
          let j = g.H.Shelf in
          let shelf = c.args.self.now.shelf in
          let read = c.look_at.new.self.shelf in
          let command = c.args.command.now in
          let first = c.in_ok-first.first in
          let facts = c.in_ok-facts.facts in
          let part = c.in_ok-part.part.state in
          let against = c.compared_with-against.result in
          let has1 : HasTables g.S.Store c.look_at.new.self.registry t =
          subst (λ (k : Held g.row.S.Denot). HasTables g.S.Store k t)
          (sym c.look_at.ensures.registry) has in
          let clean1 : DiskKept g.S.Store c.part.new.self.registry =
          subst (λ (k : Held g.row.S.Denot). DiskKept g.S.Store k) c.look.ensures.registry clean in
          let said = c.in_ok-part.ensures.part clean1 t s has1 records in
          let state : IsState part =
          read_state s command c.deref.result.now records.state c.in_ok-part.part said.0 in
          let source : against ≡ option_map compared_with
          (source_in (seen_in first) (adopted_from command)) =
          c.compared_with-against.ensures ∙ ap (option_map compared_with)
          (c.adopt_source.ensures ∙ ap (source_in (seen_in first))
          c.adopted_from-providers.ensures) in
          let before : g.H.Shelf.honest shelf → (q : List ℕ) → Has (adopted_from command) q
          → Tell first (j.size shelf) (j.view shelf).seen None q =
          λ h q k. c.in_ok-first.ensures.tell h q (subst (λ (l : List (List ℕ)). Has l q)
          (sym c.adopted_from-providers.ensures) k) in
          let then : g.H.Shelf.honest read → (q : List ℕ) → Has (needed_by part command) q
          → Tell facts (j.size read) (j.view read).seen against q =
          subst (λ (k : g.row.H.Denot). g.H.Shelf.honest k → (q : List ℕ)
          → Has (needed_by part command) q → Tell facts (j.size k) (j.view k).seen against q)
          c.part.ensures.shelf
          (λ h. c.in_ok-facts.ensures.tell h part (whole_is_part part command state)) in
          let again : g.H.Shelf.honest shelf → (q : List ℕ) → Has (needed_by part command) q
          → Tell facts (j.size shelf) (j.view shelf).seen against q =
          λ h q k. tell_moved (j.size shelf) (j.size read) (j.view shelf).seen
          (j.view read).seen against facts q c.look_at.ensures.looks.only.keeps.size
          (c.look_at.ensures.looks.only.reads h).quiet.seen
          (then (c.look_at.ensures.looks.only.keeps.honest h) q k) in
          let mids : c.deref.result.now ≡ found_mids (seen_in first) (adopted_from command) =
          c.deref.ensures.value ∙ (c.in-Ok.ensures
          ∙ ap (found_mids (seen_in first)) c.adopted_from-providers.ensures) in
          let sizes : TellSizes facts (j.size shelf) =
          subst (λ (z : Sizes). TellSizes facts z) c.look_at.ensures.looks.only.keeps.size
          (subst (λ (k : g.row.H.Denot). TellSizes facts (j.size k)) c.part.ensures.shelf
          c.in_ok-facts.ensures.sizes) in (
            record {
              state = state;
              few = read_few s command c.deref.result.now records.state c.in_ok-part.part said.0;
              most = read_most s command c.deref.result.now records.state c.in_ok-part.part said.0;
              sizes = sizes;
              itself = λ honest. itself_told j shelf facts first command against part
                  (j.size shelf) (j.view shelf).seen honest source before again;
            },
            subst (λ (k : Held g.row.S.Denot). HasTables g.S.Store k t)
                (sym c.look.ensures.registry)
                said.1,
            λ honest. record {
              part = told_part j shelf s part command first facts against (j.size shelf)
                  (j.view shelf).seen records.state (said.0.state ∙ ap (part_of s command) mids)
                  honest before again;
              mirrors = said.0.mirrors;
            },
          );
      readable = search rules;
      looks = search rules;
    }
