-- How work at a bench ends.
use Rattle.std.specs.Prelude.{◌≡◌}
use Rattle.gm_command_line.specs.declared.job.Work.{Work}
use Rattle.gm_command_line.specs.declared.job.Work.TheVariants as work
use Rattle.gm_process.specs.declared.status.Status.{Status}
use Rattle.gm_process.specs.declared.status.Status.TheVariants.{Done}
use Rattle.gm_process.specs.Statuses.{MayRefuse}

-- what shows mirrors or serves requests is done; what holds images against records or each other
-- may find damage, and a command may be refused, as a recovery without a provider or a renewal
abbrev pub MayEnd : Work → Status → Type 0
MayEnd (work.Recover checks form) status = status ≡ Done
MayEnd (work.RecoverWithout provider key checks form) status = MayRefuse status
MayEnd (work.Status form) status = status ≡ Done
MayEnd (work.List form) status = status ≡ Done
MayEnd (work.Audit form) status = MayRefuse status
MayEnd (work.Scrub comparing) status = MayRefuse status
MayEnd (work.Do key words checks form) status = MayRefuse status
MayEnd (work.Command single) status = MayRefuse status
MayEnd (work.AdoptAll checks) status = MayRefuse status
MayEnd (work.Replace replacing) status = MayRefuse status
MayEnd (work.Mend mending) status = MayRefuse status
MayEnd (work.Write writing) status = MayRefuse status
MayEnd (work.Batch audits stops guards) status = MayRefuse status
MayEnd (work.Sync filling) status = MayRefuse status
MayEnd (work.Renew renewing) status = MayRefuse status
MayEnd (work.Serve service) status = status ≡ Done
