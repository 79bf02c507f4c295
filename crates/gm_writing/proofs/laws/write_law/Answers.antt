use Rattle.std.proofs.Common.{Some}
use Rattle.gm_bench.specs.Benches.{registry_of, shelf_of}
use Rattle.gm_front.proofs.BatchRuns.{batch_leaves}
use Rattle.gm_writing.specs.Patches.{lines_of}
use Rattle.gm_writing.proofs.laws.write_law.Goals as goal

pub returns : goal.returns
returns g c all p begin count before now away acc ack old new result honest kept rest handed =
    record {
      end = handed.end;
      leaves = batch_leaves all g.S.Store g.H.Shelf (registry_of old) (shelf_of old) away acc ack
          (Some (lines_of p begin count)) before now (registry_of new) (shelf_of new) handed.end
          rest (handed.answers.does honest kept away rest.world rest.at);
      status = handed.status;
    }
