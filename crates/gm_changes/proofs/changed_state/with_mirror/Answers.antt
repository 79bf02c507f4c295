use Rattle.gm_changes.proofs.Common.{◌≡◌, ◌∙◌, ap, ap₂, insert, prefix_len, name, label_lt, without, placed}
use Rattle.gm_changes.proofs.changed_state.with_mirror.Goals as goal

pub returns : goal.returns
returns c =
    let left : c.in_ok-all.all.items ≡ without name c.args.new.name c.args.mirrors.now =
    c.in_ok-all.ensures in
    let at : c.place_of-at.result ≡ prefix_len (λ m. label_lt m.name c.args.new.name)
    (without name c.args.new.name c.args.mirrors.now)
    = c.place_of-at.ensures.value ∙ ap (prefix_len (λ m. label_lt m.name c.args.new.name))
    (c.deref.ensures.value ∙ left) in
    c.in_ok-insert.ensures.items ∙ (ap₂ (λ ms n. insert ms n c.args.new) left at
    ∙ placed name c.args.new c.args.mirrors.now c.requires)
