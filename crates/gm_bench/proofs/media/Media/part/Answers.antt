use Rattle.gm_bench.proofs.Common.{rules, ◌≡◌, ◌∙◌, sym, Disk}
use Rattle.gm_bench.proofs.Causes.{no_disk}
use Rattle.gm_bench.proofs.media.Media.part.Goals as goal

pub returns-in-Ok : goal.returns-in-Ok
returns-in-Ok g c =
    record {
      part = λ clean t s has records.
          let said = c.in-Ok.ensures.part clean t s has records in (said.0, said.1.tables);
      disk = search rules;
      store = search rules;
      fault = search rules;
      readable = search rules;
      reads = search rules;
      shelf = search rules;
    }

pub returns-in-Err : goal.returns-in-Err
returns-in-Err g c =
    record {
      part = search rules;
      disk = λ is.
          let fault : c.of_store.result ≡ Disk = cc in
          no_disk c.in-Err.fault (sym c.of_store.ensures.value ∙ fault);
      store = search rules;
      fault = search rules;
      readable = search rules;
      reads = search rules;
      shelf = search rules;
    }
