-- A command that registers a new mirror with its components.
use Rattle.gm_rules.proofs.Common.{◌≡◌, ◌≢◌, ◌∙◌, inl, ℕ, ◌<◌, ◌≤◌, ◌+◌, false, sym, ap, arith, List, [], length, Some, None, same_label, Command, Mirror, Component, Has, Ascends, put, put_all, Records, IsMirror, held_by, members, name, provider, component_of, World, Sound, Below, ReplyFits, present, new_name, same_from, differ, length-put_le, not_both, Ascends-put_all, filter-put_all, filter-put_all_out, put_ordered, no_members, after, bytes_of, clears, fills, intents_of, metas, reply_to, name_of, seen_of, NewData, WereBare}
use Rattle.gm_rules.proofs.PlanOf.{PlanOf, Nothing}
use Rattle.gm_rules.proofs.TurnedMirror.{Puts, put_turns, with_put}

-- the records of u with the mirror and its components
abbrev pub enrolled : World → Mirror → List Component → Records
enrolled u m ks = with_put u.state m (put_all provider ks u.state.components)

-- The command registers the mirror m with the components ks, which hold the list: none has the
-- mirror's name or mid and there is room for one more, the components are in order and on providers
-- that are there and have none.
pub record Enrolls (u : World) (c : Command) (m : Mirror) (ks : List Component)
    (list : ℕ → List ℕ) : Type 0 where
  pub names : (a : Mirror) → Has u.state.mirrors a → a.name ≢ m.name
  pub mids : (a : Mirror) → Has u.state.mirrors a → a.mid ≢ m.mid
  pub room : length u.state.mirrors < 64
  pub rules : IsMirror m ks
  pub ordered : Ascends provider ks
  pub own : (k : Component) → Has ks k → k.mirror ≡ m.name
  pub fresh : (k : Component) → Has ks k → component_of u.state k.provider ≡ None
  pub there : (k : Component) → Has ks k → present u k.provider ≡ Some k.sectors
  pub below : (k : Component) → Has ks k
      → Below u.shelf list k.provider (held_by k.disk m.data_sectors)
  pub after_is : enrolled u m ks ≡ after (seen_of u) c u.state
  pub intents : members (enrolled u m ks).components m.name ≡ ks
      → metas ks ≡ intents_of c u.state (enrolled u m ks)
  pub bytes : [] ≡ bytes_of c
  pub named : name_of c ≡ Some m.name
  pub reply : ReplyFits (reply_to c u.state)
  pub new : (w : World) → ((i : ℕ) → w.holds m.name i ≡ list i) → NewData u c w
  pub bare : (w : World) → w.state ≡ enrolled u m ks → WereBare c u w
  pub filled : (q : List ℕ) (j : ℕ) → false ≡ fills u.state c q j
  pub all_gone : (q : List ℕ) → false ≡ clears u.state c q

module _ (u : World) (c : Command) (m : Mirror) (ks : List Component) (list : ℕ → List ℕ)
    (sound : Sound u) (e : Enrolls u c m ks list) where
  other_name : (k j : Component) → Has ks k → Has u.state.components j → {P : Type 0}
      → j.provider ≡ k.provider → P
  other_name k j h i same =
      not_both (same_label j.provider k.provider) (same_from j.provider k.provider same)
      (new_name u.state k.provider (e.fresh k h) j i)

  none : members u.state.components m.name ≡ []
  none = no_members u.state.components m.name
      (λ j i. differ j.mirror m.name (λ is. let home = sound.state.homes j i in
      e.names home.0 home.1 (home.2 ∙ is)))

  puts : Puts u.state m (enrolled u m ks).components ks
  puts = record {
    count = (let a : length (put name m u.state.mirrors) ≤ length u.state.mirrors
        + 1 = length-put_le name m u.state.mirrors in
        let b : length u.state.mirrors < 64 = e.room in omega arith);
    mids = λ a i d. e.mids a i;
    in_order = Ascends-put_all provider ks u.state.components sound.state.components_in_order;
    mine = filter-put_all provider (λ (c : Component). same_label c.mirror m.name) ks
        u.state.components sound.state.components_in_order
        (λ k h. same_from k.mirror m.name (e.own k h)) (λ k z h i same. other_name k z h i same)
        ∙ ap (put_all provider ks) none ∙ put_ordered provider ks e.ordered;
    others = λ n d. filter-put_all_out provider (λ (c : Component). same_label c.mirror n) ks
        u.state.components (λ k h. differ k.mirror n (λ is. d (sym is ∙ e.own k h)))
        (λ k z h i same. other_name k z h i same);
    rules = e.rules;
  }

  pub enrolls_plan : PlanOf u c
  enrolls_plan = record {
    mirror = m;
    components = ks;
    list = list;
    records = enrolled u m ks;
    fill = Nothing;
    gone = [];
    told = ks;
    turns = put_turns u.state m (enrolled u m ks).components ks sound.state puts;
    after_is = e.after_is;
    intents = e.intents puts.mine;
    bytes = e.bytes;
    named = λ k h. e.named;
    reply = e.reply;
    there = e.there;
    below = e.below;
    same_data = λ a h is. absurd (e.names a h is);
    new = e.new;
    bare = e.bare;
    can_fill = tt;
    filled = e.filled;
    cleared = λ q h. absurd h;
    all_gone = e.all_gone;
    told_are = λ k h. h;
    all_told = λ k h. inl h;
  }
