-- Answered keys with one row are one, and so are bytes.
use Rattle.gm_state.proofs.Common.{rules, ◌≡◌, ◌<◌, refl, ap, arith, Reply, Plain, Copied, Answered, AnswerFits, ReplyFits, Mirror, Component, mirror_row, component_row, answer_row, copied_of, total_of, same_command}
pub use Rattle.gm_commands.proofs.JoinedSectors.{same_joined}

-- a copy that was answered holds some sectors
pub same_reply : (a b : Reply) → ReplyFits a → ReplyFits b → copied_of a ≡ copied_of b
    → total_of a ≡ total_of b → a ≡ b
same_reply Plain Plain f g p q = refl
same_reply Plain (Copied held total) f g p q = let some : 0 < held = g.0 in absurd (omega arith)
same_reply (Copied held total) Plain f g p q = let some : 0 < held = f.0 in absurd (omega arith)
same_reply (Copied held total) (Copied held' total') f g p q = rw (p, q) refl

pub same_answer : (a b : Answered) → AnswerFits a → AnswerFits b → answer_row a ≡ answer_row b
    → a ≡ b
same_answer a b f g e =
    let keys : a.key ≡ b.key = ap (λ r. r.call_key) e in
    let numbers : a.number ≡ b.number = ap (λ r. r.seq) e in
    let commands : a.command ≡ b.command =
    same_command a.command b.command f.command g.command (ap (λ r. r.words) e) in
    let replies : a.reply ≡ b.reply =
    same_reply a.reply b.reply f.reply g.reply (ap (λ r. r.copied) e)
    (ap (λ r. r.of_total) e) in
    λ i. record { key = keys i; command = commands i; number = numbers i; reply = replies i }

-- a row says its mirror, and its component
pub same_mirror : (a b : Mirror) → mirror_row a ≡ mirror_row b → a ≡ b
same_mirror a b e = search rules

pub same_component : (a b : Component) → component_row a ≡ component_row b → a ≡ b
same_component a b e = search rules
