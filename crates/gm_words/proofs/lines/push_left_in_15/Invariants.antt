use Rattle.gm_words.proofs.Common.{◌≡◌, ◌++◌, ◌-◌, ◌≤◌, length, replicate, string_bytes}
use Rattle.gm_words.proofs.lines.push_left_in_15.Given as goal

abbrev pub invariant-loop : goal.invariant-loop
invariant-loop l =
    record {
      text : string_bytes l.text ≡ string_bytes l.fn.text ++ l.fn.name
          ++ replicate (l.counter - length l.fn.name) 32;
      from : length l.fn.name ≤ l.counter;
      to : l.counter ≤ 15;
    }
