use Rattle.gm_words.proofs.Common.{◌≡◌, subst, List, ℕ, Result, Ok, IfOk, string_bytes, reading_of, reading_text, text_of}
use Rattle.gm_metadata.specs.declared.decoding.Reading.{Reading}
use Rattle.gm_metadata.specs.declared.fault.DecodeFault.{DecodeFault}
use Rattle.gm_words.proofs.dump.dump_text.Goals as goal

pub returns-in-Ok : goal.returns-in-Ok
returns-in-Ok c =
    let x = c.args.sector.now in
    let told = c.reading_text.result in
    let by_hash : List ℕ → Type 0 =
    λ hash. IfOk told (λ text. string_bytes text ≡ reading_text c.in-Ok.reading hash) in
    let by_reading : Result Reading DecodeFault → Type 0 =
    λ r. IfOk told (λ text. string_bytes text ≡ text_of r x) in
    let is : Ok c.in-Ok.reading ≡ reading_of x = c.in-Ok.ensures.exact in
    subst by_reading is (subst by_hash c.written_hash.ensures c.reading_text.ensures)
