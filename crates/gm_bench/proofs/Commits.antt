-- The commit of a command under its keys: the world before or that of the steps, and at the end the
-- latter.
use Rattle.gm_bench.proofs.Common.{◌≡◌, ◌∙◌, inl, inr, ℕ, ◌+◌, List, [], sym, ap, subst, subst₂, map, length, length-map, length_permutation, Ghosts, Held, Image, Sizes, IsLawful, Command, Intent, Reply, words_of, IsAtHand, Tables, World, answer_row, SeriesPlan, Keyed, Steps, DoneFrom, answers_after, calls_of, keyed_in, keyed_of, last_reply, settled, with_accepted, CrashLeavesOnly, DiskKept, HasSaved, MayLeave, count_of, Planned, ArePlanned, LeavesSteps, AreDone, whole, Leads, AllLead, Cover, IsAt, IsCarriedOut}
use Rattle.gm_shelf.specs.declared.shelf.Shelf.{Ghosts as ShelfGhosts}
use Rattle.gm_rules.proofs.SeriesTurns.{answers_done, done_in_turn, steps_in_turn}
use Rattle.gm_bench.proofs.AnswersCounted.{steps_present}
use Rattle.gm_bench.proofs.CarriedOut.{settled_leads}
use Rattle.gm_bench.proofs.CommitLeadsOn.{commit_leads, commit_claims}
use Rattle.gm_bench.proofs.RegistryLeaves.{leads_in}

module _ {S H : Type 0} (g : Ghosts S) (j : ShelfGhosts H) (r s : Held S) (h : H)
    (away : Image) (ts : List Intent) (bytes : List (List ℕ)) (v u : World) (key : List ℕ)
    (c : Command) (p : Planned) (words : List ℕ) (words_is : words ≡ words_of c)
    (lawful : IsLawful (j.view h)) (at : IsCarriedOut g j r h away ts bytes v u)
    (planned : ArePlanned u key c p) where
  -- the tables that it is accepted on
  abbrev rest : Tables
  rest = settled at.tables

  rest_leads : (x : Image) → (j.view h).may_leave x → Leads rest [] [] (whole (j.size h) away x) u
  rest_leads = settled_leads g j r h away ts bytes v u at lawful

  first_leads : Leads rest [] [] (whole (j.size h) away (j.view h).seen) u
  first_leads = rest_leads (j.view h).seen lawful.holds_now

  abbrev w : World
  w = planned.world

  plan : SeriesPlan u key c p.change w
  plan = planned.plan

  abbrev keyed : List Keyed
  keyed = keyed_in key p.change

  steps : Steps u (calls_of c keyed) w
  steps = steps_in_turn u w c keyed plan.turns

  abbrev t : Tables
  t = with_accepted p.change key words rest

  leads : AllLead t p.change.intents p.change.bytes (j.size h) away (j.view h).may_leave u w
  leads x left = (
    subst (λ (text : List ℕ). Leads (with_accepted p.change key text rest) p.change.intents
        p.change.bytes (whole (j.size h) away x) w) (sym words_is)
        (commit_leads u w key c p.change rest (whole (j.size h) away x) plan (rest_leads x left)),
    commit_claims u w key c p.change rest (whole (j.size h) away x) plan (rest_leads x left),
  )

  pub commit_leaves : CrashLeavesOnly g r at.tables → DiskKept g s → MayLeave g r s t
      → LeavesSteps g j r s h h away v u (calls_of c keyed)
  commit_leaves only clean may = record {
    within = leads_in g j r h away at.tables ts bytes v u only
        ((j.view h).left_since (j.view h).moment) (λ x left. at.leads x (lawful.only_now x left));
    end = λ db left. elim (may.crash clean db left) [
      | inl was ↦ inl (leads_in g j r h away at.tables ts bytes v u only
          (j.view h).may_leave at.leads db was)
      | inr is ↦ inr (
        w,
        steps,
        record {
          tables = t;
          intents = p.change.intents;
          bytes = p.change.bytes;
          stored = inl is;
          leads = leads;
        },
      )
    ];
  }

  as_many : length u.answered ≡ count_of at.tables
  as_many =
      let n = length_permutation (map answer_row u.answered) at.tables.commands
      first_leads.records.commands in
      sym (length-map u.answered answer_row) ∙ sym n

  pub commit_done : (n : ℕ) (reply : Reply)
      → reply ≡ last_reply p.change.reply (map keyed_of p.change.further)
      → n ≡ count_of at.tables + 1
      → HasSaved g s t → AreDone g j s h away u (calls_of c keyed) n reply p.work
  commit_done n reply reply_is number_is saved = record {
    world = w;
    answers = answers_after (length u.answered) keyed;
    run = done_in_turn u w c keyed plan.turns;
    done = subst₂ (λ (k : ℕ) (a : Reply). DoneFrom k a (answers_after (length u.answered) keyed))
        (sym (number_is ∙ ap (λ k. k + 1) (sym as_many))) (sym reply_is)
        (answers_done (length u.answered) (record { key = key; reply = p.change.reply })
        (map keyed_of p.change.further));
    at = record {
      at = subst₂ (λ (is : List Intent) (bs : List (List ℕ)).
          IsAt g j s h away is bs u w) (sym planned.intents) (sym planned.bytes)
          (record {
            tables = t;
            has = saved.tables;
            sizes = steps_present u w (calls_of c keyed) steps ∙ at.sizes;
            at_hand = λ i k. subst (λ (z : Sizes). IsAtHand z i) at.sizes (plan.at_hand i k);
            leads = leads;
          });
      cover = subst (λ (is : List Intent). Cover p.work.part w.state is) (sym planned.intents)
          planned.cover;
    };
    only = λ db left. record {
      tables = t;
      intents = p.change.intents;
      bytes = p.change.bytes;
      stored = inl (saved.crash db left);
      leads = leads;
    };
  }
