use Rattle.gm_front.proofs.Common.{rules, arith, ◌≡◌, ◌≢◌, ◌∙◌, ap, refl, inl, Appends, End, AppendsFront}
use Rattle.gm_front.proofs.Heard.{heard_in_part, heard_none, heard_to_end, heard_to_stop, heard_whole, one_heard}
use Rattle.gm_front.proofs.ReadAhead.{followed_after, followed_first, waits_for_lines}
use Rattle.gm_front.proofs.Turns.{begun, broken, comes_so, comes_to, far_failed, far_on, finished, front_all, goes_on, kept_before, one_more, stopped, takes_after, told_in_part, told_wholly}
use Rattle.gm_front.proofs.answer_lines.answer_lines.Goals as goal

pub loop-init : goal.loop-init
loop-init g c = record {
  going = record {
    clean = omega arith;
    stays = λ h. h;
    sizes = refl;
    count = omega arith;
    does = λ honest kept away u at. begun g.S.Store g.H.Shelf _ _ _ _ _ away u c.requires.phase at;
  };
  heard = heard_none _ _ _;
  takes = inl c.requires.phase;
  goes_on = λ other. other;
  redone = refl;
  closed = λ _. refl;
  followed = followed_first _ _ c.requires.phase;
}

pub returns-in_default-clause-does : goal.returns-in_default-clause-does
returns-in_default-clause-does g c = λ honest kept away u at.
    let so = c.loop.invariant.going.does honest kept away u at in
    inl (broken g.S.Store g.H.Shelf _ _ _ _ _ _ _ away u _ _ so so.told
    (waits_for_lines _ _ _ _ c.loop.invariant.followed))

pub returns-then-eq-clause-does : goal.returns-then-eq-clause-does
returns-then-eq-clause-does g c = λ honest kept away u at.
    let is_end : c.in-Ok.taken.found ≡ End = search rules in
    let so = c.loop.invariant.going.does honest kept away u at in
    finished g.S.Store g.H.Shelf _ _ _ _ _ _ _ _ away u _ c.take_line.new.line
    so (rw is_end at c.in-Ok.ensures.line) (waits_for_lines _ _ _ _ c.loop.invariant.followed)

pub returns-in_default-request_at-clause-does : goal.returns-in_default-request_at-clause-does
returns-in_default-request_at-clause-does g c = λ honest kept away u at.
    let so = c.loop.invariant.going.does honest kept away u at in
    inl (broken g.S.Store g.H.Shelf _ _ _ _ _ _ _ away u _ (AppendsFront _ _)
    so (front_all _ _ _ so.told) (waits_for_lines _ _ _ _ c.loop.invariant.followed))

pub returns-clause-does : goal.returns-clause-does
returns-clause-does g c = λ honest kept away u at.
    let so = c.loop.invariant.going.does honest kept away u at in
    inl (broken g.S.Store g.H.Shelf _ _ _ _ _ _ _ away u _ _ so so.told
    (waits_for_lines _ _ _ _ c.loop.invariant.followed))

pub returns-in-Err-clause-does : goal.returns-in-Err-clause-does
returns-in-Err-clause-does g c = λ honest kept away u at.
    let some : c.in-Ok.taken.found ≢ End = search rules in
    let going = c.loop.invariant.going in
    let so = going.does honest
    (kept_before g.S.Store g.H.Shelf c.loop.bench.media.registry
    c.ask_next-outcome.new.bench.media.registry c.ask_next-outcome.ensures.keep.clean kept) away u
    at in
    let comes = comes_so g.S.Store g.H.Shelf _ _ _ _ _ _ away _ _ _ c.in-Ok-request_at.ensures
    (c.ask_next-outcome.ensures.comes (going.stays honest) kept away) in
    told_in_part g.S.Store g.H.Shelf _ _ _ _ _ _ _ _ _ _ _ _ away u _ c.take_line.new.line
    c.in-Ok.taken.found c.ask_next-outcome.result _ so c.in-Ok.ensures.line some comes (far_failed
    _ _ _ _ c.ask_next-outcome.ensures.far) c.in-Err.ensures.fault c.in-Err.ensures.front
    (waits_for_lines _ _ _ _ (followed_after _ _ _ _ _ _ _ _ _ c.take_line.new.line
    c.in-Ok.taken.found _ c.ask_next-outcome.result _ c.loop.invariant.heard.left
    c.loop.invariant.followed c.in-Ok.ensures.line some c.in-Ok-request_at.ensures
    c.ask_next-outcome.ensures.asks c.is_some.ensures c.ask_next-outcome.ensures.far
    c.replace-ahead.ensures.after c.in-Ok.ensures.next))

pub returns-in-Failed-clause-does : goal.returns-in-Failed-clause-does
returns-in-Failed-clause-does g c = λ honest kept away u at.
    let some : c.in-Ok.taken.found ≢ End = search rules in
    let going = c.loop.invariant.going in
    let so = going.does honest
    (kept_before g.S.Store g.H.Shelf c.loop.bench.media.registry
    c.ask_next-outcome.new.bench.media.registry c.ask_next-outcome.ensures.keep.clean kept) away u
    at in
    let comes = comes_so g.S.Store g.H.Shelf _ _ _ _ _ _ away _ _ _ c.in-Ok-request_at.ensures
    (c.ask_next-outcome.ensures.comes (going.stays honest) kept away) in
    let failed = comes_to g.S.Store g.H.Shelf _ _ _ _ _ _ away _ _ _ c.in-Failed.is comes in
    let told = told_wholly g.S.Store g.H.Shelf _ c.ask_next-outcome.new.bench.progress _ _ _ _ _ _
    _ _ _ away u _ c.take_line.new.line c.in-Ok.taken.found c.in-Failed.field-0 c.in-Failed.fault
    so c.in-Ok.ensures.line some failed _ c.ask_next-outcome.result c.in-Failed.is
    c.in_default-tell.ensures.ok in (
      far_failed _ _ _ _ c.ask_next-outcome.ensures.far
          c.in-Failed.field-0 c.in-Failed.fault c.in-Failed.is,
      stopped g.S.Store g.H.Shelf _ c.ask_next-outcome.new.bench.progress _ _ _ _ _ _ _ _ _ away
          u _ c.take_line.new.line c.in-Ok.taken.found c.in-Failed.field-0 c.in-Failed.fault so
          c.in-Ok.ensures.line some failed (Appends (g.W.Write.contents c.args.writer.now)
          (g.W.Write.contents c.tell.new.writer)) told,
    )

pub loop-preserved : goal.loop-preserved
loop-preserved g c =
    let some : c.in-Ok.taken.found ≢ End = search rules in
    let going = c.loop.invariant.going in
    let asked = c.ask_next-outcome.ensures in
    let on = goes_on c.ask_next-outcome.result c.in_default-outcome.not-Failed in
    record {
      going = record {
        clean = omega (arith, going.clean, asked.keep.clean);
        stays = λ honest. asked.keep.shelf.honest (going.stays honest);
        sizes = asked.keep.shelf.size ∙ going.sizes;
        count = omega (arith, going.count, asked.keep.shelf.count);
        does = λ honest kept away u at.
            let so = going.does honest
            (kept_before g.S.Store g.H.Shelf c.loop.bench.media.registry
            c.ask_next-outcome.new.bench.media.registry asked.keep.clean kept) away u at in
            let comes = comes_so g.S.Store g.H.Shelf _ _ _ _ _ _ away _ _ _
            c.in-Ok-request_at.ensures (asked.comes (going.stays honest) kept away) in
            one_more g.S.Store g.H.Shelf _ _ _ _ _ _ _ _ _ _ _ away u _ c.take_line.new.line
            c.in-Ok.taken.found c.ask_next-outcome.result so c.in-Ok.ensures.line some comes
            _ _ c.is_refused_after-refused.ensures on c.in_default-tell.ensures.ok;
      };
      heard = one_heard _ _ _ _ _ _ c.loop.invariant.heard _ _ _ _ _ _ _ c.in-Ok.ensures.line some
          c.in-Ok.ensures.fits c.in_default-tell.ensures.ok c.bytes_of.ensures c.answered.ensures;
      takes = takes_after _ _ _ _ c.loop.invariant.takes asked.far;
      goes_on = λ other. far_on _ _ _ _ asked.far on (c.loop.invariant.goes_on other);
      redone = asked.closes.redone ∙ c.loop.invariant.redone;
      closed = λ failed. asked.closes.closed (ap (λ b. b.progress) (c.loop.invariant.closed failed)
          ∙ failed) ∙ c.loop.invariant.closed failed;
      followed = followed_after _ _ _ _ _ _ _ _ _ c.take_line.new.line
          c.in-Ok.taken.found _ c.ask_next-outcome.result _ c.loop.invariant.heard.left
          c.loop.invariant.followed c.in-Ok.ensures.line some c.in-Ok-request_at.ensures
          asked.asks c.is_some.ensures asked.far
          c.replace-ahead.ensures.after c.in-Ok.ensures.next;
    }

pub returns-in-Err-clause-far : goal.returns-in-Err-clause-far
returns-in-Err-clause-far g c = record {
  takes = takes_after _ _ _ _ c.loop.invariant.takes c.ask_next-outcome.ensures.far;
  ended = tt;
}

pub returns-in-Failed-clause-far : goal.returns-in-Failed-clause-far
returns-in-Failed-clause-far g c = record {
  takes = takes_after _ _ _ _ c.loop.invariant.takes c.ask_next-outcome.ensures.far;
  ended = far_failed _ _ _ _ c.ask_next-outcome.ensures.far
      c.in-Failed.field-0 c.in-Failed.fault c.in-Failed.is;
}

pub returns-in_default-clause-heard : goal.returns-in_default-clause-heard
returns-in_default-clause-heard g c = heard_whole _ _ _ _ _ _ c.loop.invariant.heard _

pub returns-then-eq-clause-heard : goal.returns-then-eq-clause-heard
returns-then-eq-clause-heard g c =
    let is_end : c.in-Ok.taken.found ≡ End = search rules in
    heard_to_end _ _ _ _ _ _ c.loop.invariant.heard _ c.take_line.new.line _
    (rw is_end at c.in-Ok.ensures.line)

pub returns-in_default-request_at-clause-heard : goal.returns-in_default-request_at-clause-heard
returns-in_default-request_at-clause-heard g c = heard_whole _ _ _ _ _ _ c.loop.invariant.heard _

pub returns-clause-heard : goal.returns-clause-heard
returns-clause-heard g c = heard_whole _ _ _ _ _ _ c.loop.invariant.heard _

pub returns-in-Err-clause-heard : goal.returns-in-Err-clause-heard
returns-in-Err-clause-heard g c =
    heard_in_part _ _ _ _ _ _ c.loop.invariant.heard _ _ _
    (λ is. absurd (c.in-Err.ensures.fault is)) c.in-Err.ensures.front

pub returns-in-Failed-clause-heard : goal.returns-in-Failed-clause-heard
returns-in-Failed-clause-heard g c =
    let some : c.in-Ok.taken.found ≢ End = search rules in
    heard_to_stop _ _ _ _ _ _ (one_heard _ _ _ _ _ _ c.loop.invariant.heard _ _ _ _ _ _ _
    c.in-Ok.ensures.line some c.in-Ok.ensures.fits c.in_default-tell.ensures.ok
    c.bytes_of.ensures c.answered.ensures) _
