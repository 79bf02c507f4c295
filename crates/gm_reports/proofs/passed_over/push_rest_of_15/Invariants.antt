use Rattle.std.proofs.Common.{◌≡◌, ◌++◌, ◌-◌, ◌≤◌, replicate}
use Rattle.std.specs.String.{string_bytes}
use Rattle.gm_reports.proofs.passed_over.push_rest_of_15.Given as goal

abbrev pub invariant-loop : goal.invariant-loop
invariant-loop l =
    record {
      text : string_bytes l.text ≡ string_bytes l.fn.text
          ++ replicate (l.counter - l.fn.taken) 32;
      from : l.fn.taken ≤ l.counter;
      to : l.counter - l.fn.taken ≤ 15 - l.fn.taken;
    }
