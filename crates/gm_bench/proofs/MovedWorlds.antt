-- Worlds whose providers went away or came back.
use Rattle.gm_bench.proofs.Common.{◌≡◌, ◌∙◌, ◌⊎◌, inl, inr, ℕ, zero, suc, Bool, true, false, Option, Some, None, List, [], ◌∷◌, refl, sym, subst, if◌then◌else◌, is_some, Image, Sizes, Intent, Reply, Tables, World, present, Step, Call, AreAmong, Leads, KeepsClaims, ComesOf, IsBetween, PendingSince, Entry, Handed_in, Without, IsButMoved, AreStepsTo, Steps, IsStepWithout, Reached, IsLastStep, ArePending}
use Rattle.gm_rules.proofs.SeriesTurns.{steps_sizes}

-- the world in which these providers are there
abbrev pub with_there : World → (List ℕ → Bool) → World
with_there w there = record w { there = there }

pub stays : (w : World) → IsButMoved w w
stays w = record { state = refl; holds = refl; answered = refl; shelf = refl; size = refl }

moved_on : (u w : World) (there : List ℕ → Bool) → IsButMoved w u
    → IsButMoved (with_there w there) u
moved_on u w there m = record {
  state = m.state;
  holds = m.holds;
  answered = m.answered;
  shelf = m.shelf;
  size = m.size;
}

pub moved_from : (u w : World) (there : List ℕ → Bool) → IsButMoved u w
    → IsButMoved u (with_there w there)
moved_from u w there m = record {
  state = m.state;
  holds = m.holds;
  answered = m.answered;
  shelf = m.shelf;
  size = m.size;
}

pub all_steps : (u w : World) (calls : List Call) → Steps u calls w → AreStepsTo u calls w
all_steps u w calls steps = record { stepped = w; steps = steps; moved = stays w }

pub one_step : (u w : World) (call : Call) (r : Reply) → Step u call.key call.command w r
    → AreStepsTo u (call ∷ []) w
one_step u w call r step = all_steps u w (call ∷ []) (w, r, step, refl)

moved_step : (u w : World) (calls : List Call) (there : List ℕ → Bool) → AreStepsTo u calls w
    → AreStepsTo u calls (with_there w there)
moved_step u w calls there s = record {
  stepped = s.stepped;
  steps = s.steps;
  moved = moved_on s.stepped w there s.moved;
}

moved_without : (u w : World) (call : Call) (p : List ℕ) (gone : List Intent) (there : List ℕ
    → Bool) → IsStepWithout u call p gone w → IsStepWithout u call p gone (with_there w there)
moved_without u w call p gone there s = record {
  stepped = s.stepped;
  reply = s.reply;
  step = s.step;
  mirror = s.mirror;
  command = s.command;
  state = s.state;
  holds = s.holds;
  answered = s.answered;
  size = s.size;
  shelf = s.shelf;
}

pub moved_reached : (all : Sizes) (acc : List Entry) (w : World) (there : List ℕ → Bool)
    → Reached all acc w → Reached all acc (with_there w there)
moved_reached all [] w there new =
    record {
      mirrors = new.mirrors;
      components = new.components;
      answered = new.answered;
      sizes = new.sizes;
    }
moved_reached all (Handed_in calls ∷ older) w there (u, reached, s) =
    (u, reached, moved_step u w calls there s)
moved_reached all (Without call p gone ∷ older) w there (u, reached, s) =
    (u, reached, moved_without u w call p gone there s)

pub moved_last : (all : Sizes) (acc : List Entry) (u w : World) (there : List ℕ → Bool)
    → ArePending all acc u w → ArePending all acc u (with_there w there)
moved_last all [] u w there last = absurd last
moved_last all (Handed_in calls ∷ older) u w there (reached, s) =
    (reached, moved_step u w calls there s)
moved_last all (Without call p gone ∷ older) u w there (v, reached, s, first) =
    (v, reached, moved_without v w call p gone there s, first)

-- commands that were handed in are the first that are pending
pub last_pending : (all : Sizes) (acc : List Entry) (u w : World) → IsLastStep all acc u w
    → ArePending all acc u w
last_pending all [] u w last = absurd last
last_pending all (Handed_in calls ∷ older) u w last = last
last_pending all (Without call p gone ∷ older) u w last = absurd last

pub moved_leads : (t : Tables) (ts : List Intent) (bytes : List (List ℕ)) (x : Image) (w : World)
    (there : List ℕ → Bool)
    → Leads t ts bytes x w → Leads t ts bytes x (with_there w there)
moved_leads t ts bytes x w there l = record {
  sound = record {
    state = l.sound.state;
    answers = l.sound.answers;
    sizes = l.sound.sizes;
    full = l.sound.full;
    whole = l.sound.whole;
  };
  records = record {
    mirrors = l.records.mirrors;
    components = l.records.components;
    commands = l.records.commands;
  };
  intents = l.intents;
  patches = l.patches;
  readable = l.readable;
  at_hand = l.at_hand;
  redo = l.redo;
}

-- what is pending comes of the same commands
pending_moved : (n : ℕ) (begun : Bool) (u w : World) (ts : List Intent) (there : List ℕ → Bool)
    → PendingSince n begun u w ts → PendingSince n begun u (with_there w there) ts
pending_moved zero false u w ts there p = p
pending_moved zero true u w ts there p = record {
  command = p.command;
  keys = p.keys;
  series = p.series;
  stepped = p.stepped;
  turns = p.turns;
  sound = p.sound;
  state = p.state;
  answered = p.answered;
  intents = p.intents;
}
pending_moved (suc n) begun u w ts there (v, before, p, loss) = (
  v,
  before,
  p,
  record {
    sound = loss.sound;
    key = loss.key;
    name = loss.name;
    provider = loss.provider;
    next = loss.next;
    stepped = loss.stepped;
    reply = loss.reply;
    step = loss.step;
    sound_after = loss.sound_after;
    state = loss.state;
    answered = loss.answered;
    intents = loss.intents;
  },
)

pub moved_comes : (ts : List Intent) (x : Image) (u w : World) (there : List ℕ → Bool)
    → ComesOf ts x u w → ComesOf ts x u (with_there w there)
moved_comes ts x u w there c = record {
  losses = c.losses;
  begun = c.begun;
  pending = pending_moved c.losses c.begun u w ts there c.pending;
  rises = c.rises;
  lasts = λ q j last place. still q (x q j) (c.lasts q j last place);
}
  where
    still : (q s : List ℕ) {j : ℕ} → IsBetween c.begun u w ts q j s
        → IsBetween c.begun u (with_there w there) ts q j s
    still q s (inl old) = inl old
    still q s (inr (inl wiped)) = inr (inl wiped)
    still q s (inr (inr says)) = inr (inr (record {
      mirror = says.mirror;
      component = says.component;
      is = says.is;
      on = says.on;
      genid = says.genid;
      since = says.since;
      at_most = says.at_most;
      says = says.says;
    }))

pub moved_keeps : (ts : List Intent) (x : Image) (u w : World) (there : List ℕ → Bool)
    → KeepsClaims ts x u w → KeepsClaims ts x u (with_there w there)
moved_keeps ts x u w there k = record {
  sound = k.sound;
  sizes = k.sizes;
  after = k.after;
  copies = k.copies;
  old = k.old;
  new = k.new;
  comes = moved_comes ts x u w there k.comes;
}

-- the providers have their sizes for ever
pub reached_sizes : (all : Sizes) (acc : List Entry) (w : World) → Reached all acc w → w.size ≡ all
reached_sizes all [] w new = new.sizes
reached_sizes all (Without call p gone ∷ older) w (u, reached, s) =
    let same : s.stepped.size ≡ u.size = λ i q. s.step.sizes q i in
    s.size ∙ (same ∙ reached_sizes all older u reached)
reached_sizes all (Handed_in calls ∷ older) w (u, reached, s) =
    let same : s.stepped.size ≡ u.size = λ i q. steps_sizes u s.stepped calls s.steps q i in
    s.moved.size ∙ (same ∙ reached_sizes all older u reached)

seen_through : (o full : Option ℕ) → (o ≡ None) ⊎ (o ≡ full)
    → (if is_some o then full else None) ≡ o
seen_through None full e = refl
seen_through (Some n) full (inl e) = absurd (let no : ⊥ = cc in no)
seen_through (Some n) full (inr e) = sym e

abbrev pub there_of : Sizes → List ℕ → Bool
there_of size q = is_some (size q)

pub moved_present : (all : Sizes) (w : World) (size : Sizes) → w.size ≡ all → AreAmong size all
    → present (with_there w (there_of size)) ≡ size
moved_present all w size is among =
    let each : (q : List ℕ) → (if is_some (size q) then w.size q else None) ≡ size q =
    λ q. seen_through (size q) (w.size q)
    (subst (λ (z : Sizes). (size q ≡ None) ⊎ (size q ≡ z q)) (sym is) (among q)) in
    λ i q. each q i
