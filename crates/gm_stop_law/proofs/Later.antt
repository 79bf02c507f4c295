-- What is registered after a command, maybe of a series, and the losses that came after it, and
-- what it was before.
use Rattle.gm_stop_law.proofs.Common.{◌≡◌, ◌∙◌, ℕ, zero, suc, ◌+◌, ◌≤◌, true, false, sym, ap, subst, arith, List, Some, one, find_one, Has, Command, World, Sound, InTurn, IsSeries, Keyed, member, members, mirror_of, name, Intent, Component, Mirror, IsOf, PendingSince, of_genid, stopped_by}
use Rattle.gm_rules.proofs.GrownRecords.{IsGrown}
use Rattle.gm_bench.proofs.LossReadable.{home}
use Rattle.gm_stop_law.specs.NeverStrange.{commands_of}
use Rattle.gm_stop_law.proofs.Chain.{AreMetas, components_stay, first_of, genid_counted, kept_of, mirrors_stay, more_metas, stepped_of}
use Rattle.gm_stop_law.proofs.OneLoss.{intents_are}
use Rattle.gm_stop_law.proofs.WalkBack.{walks}

-- if nothing was pending before the losses, what is pending writes metadata alone
pub settled_metas : (n : ℕ) (u w : World) (ts : List Intent) → PendingSince n false u w ts
    → AreMetas ts
settled_metas zero u w ts none = λ t h.
    absurd (subst (λ (l : List Intent). Has l t) none h)
settled_metas (suc n) u w ts (v, before, p, loss) =
    subst AreMetas (sym (intents_are v w before ts loss))
    (more_metas loss.provider loss.next before (members w.state.components loss.name)
    (settled_metas n u v before p))

-- the steps of the first command
pub record HasStepped (u s : World) (c : Command) : Type 0 where
  pub keys : List Keyed
  pub series : IsSeries c keys
  pub turns : InTurn u c keys s
  pub sound : Sound s

pub stepped : (n : ℕ) (u w : World) (ts : List Intent) (p : PendingSince n true u w ts)
    → HasStepped u (stepped_of n u w ts p) (first_of n u w ts p)
stepped zero u w ts p = record {
  keys = p.keys;
  series = p.series;
  turns = p.turns;
  sound = p.sound;
}
stepped (suc n) u w ts p = stepped n u p.0 p.1 p.2

-- the mirror is one that was registered after the command, with a genid that rose n times at most
pub record IsRisen (s : World) (n : ℕ) (m a : Mirror) : Type 0 where
  pub is : m ≡ of_genid m.genid a
  pub low : a.genid ≤ m.genid
  pub high : m.genid ≤ a.genid + n
  pub grown : IsGrown a m

module _ (n : ℕ) (u w : World) (ts : List Intent) (p : PendingSince n true u w ts)
    (sound : Sound w) where
  abbrev s : World
  s = stepped_of n u w ts p

  -- so is each mirror of then
  pub risen : (a : Mirror) → Has s.state.mirrors a → (m : Mirror) × Has w.state.mirrors m
      × (mirror_of w.state a.name ≡ Some m) × IsRisen s n m a
  risen a h =
      let at = mirrors_stay n u w ts p sound a h in
      let m : Mirror = at.0 in
      let found : mirror_of w.state m.name ≡ Some m =
      find_one name w.state.mirrors sound.state.mirrors_in_order m at.1 in
      let is = at.3 in (
        m,
        at.1,
        subst (λ (q : List ℕ). mirror_of w.state q ≡ Some m) at.2 found,
        record {
          is = is;
          low = at.4;
          high = genid_counted n u w ts p sound a m h at.1 (sym at.2);
          grown = record {
            name = sym at.2;
            mid = sym (ap (λ (x : Mirror). x.mid) is);
            data_sectors = sym (ap (λ (x : Mirror). x.data_sectors) is);
            genid = at.4;
            syncid = (let same : m.syncid ≡ a.syncid = ap (λ (x : Mirror). x.syncid) is in
                omega (arith, same));
          };
        },
      )

  -- a component is of such a mirror, as it was then
  pub was_then : (m : Mirror) (k : Component) → IsOf w.state m k
      → (a : Mirror) × IsOf s.state a k × IsRisen s n m a
  was_then m k of =
      let in_w = member w.state m.name k of.component in
      let there = components_stay n u w ts p sound k in_w.0 in
      let at = home s.state (stepped n u w ts p).sound.state k there in
      let rose = risen at.0 at.1.mirror in
      let named : rose.0.name ≡ m.name =
      sym rose.3.grown.name ∙ (sym (member s.state at.0.name k at.1.component).1 ∙ in_w.1) in
      let one_is : rose.0 ≡ m = one name w.state.mirrors sound.state.mirrors_in_order rose.0 m
      rose.1 of.mirror named in
      (at.0, at.1, subst (λ (x : Mirror). IsRisen s n x at.0) one_is rose.3)

  -- the walk ends at the command, as long as something of it is left
  pub stopped_is : (t : Intent) → Has (kept_of n u w ts p) t
      → stopped_by w.state ts (commands_of w)
      ≡ record { command = Some (first_of n u w ts p); losses = n }
  stopped_is t h = walks n u w ts p sound t h
