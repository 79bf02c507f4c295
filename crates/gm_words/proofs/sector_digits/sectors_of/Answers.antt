use Rattle.gm_words.proofs.Common.{◌≡◌, ◌∙◌, ◌%◌, ap, length, rules}
use Rattle.gm_words.proofs.ReadSectors.{cut}
use Rattle.gm_words.proofs.sector_digits.sectors_of.Goals as goal

pub returns : goal.returns
returns c =
    let items = c.in_ok-sectors.ensures.items in
    let none : length c.args.bytes.now % 512 ≡ 0 =
    grind (rules, c.as_chunks.ensures.back_len, c.if-not-is_empty.ensures) in
    cut c.args.bytes.now _ _ none (items ∙ c.as_chunks.ensures.front)
    (ap length items ∙ c.as_chunks.ensures.front_len) c.new.ensures
