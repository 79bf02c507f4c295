use Rattle.gm_sync.proofs.SyncRuns.{sync_leaves}
use Rattle.gm_sync.proofs.laws.whole_sync_law.Goals as goal

pub returns : goal.returns
returns g c all old new away acc ack scope audits result honest kept rest syncs fails =
    sync_leaves all g.S.Store g.H.Shelf old new away acc ack rest scope audits result honest kept
    syncs fails
