use Rattle.gm_metadata.proofs.Common.{rules, arith, refl, sym, subst, ◌≡◌, ◌∙◌, ◌++◌, ◌∷◌, [], ◌-◌, length, replicate, ap, ℕ, List, md5, padded, Four, u32_field, u64_field, provider_field, Full, fields}
use Rattle.gm_metadata.specs.Sector.{magic}
use Rattle.gm_metadata.specs.Reading.{spelling, encoded}
use Rattle.gm_metadata.proofs.Sector.{next, ended, fields_appended}
use Rattle.gm_metadata.proofs.Laid.{Named, encoded_is_full}
use Rattle.gm_metadata.proofs.encoding.encode.Goals as goal

magic_bytes : 71 ∷ 69 ∷ 79 ∷ 77 ∷ 58 ∷ 58 ∷ 77 ∷ 73 ∷ 82 ∷ 82 ∷ 79 ∷ 82 ∷ 0 ∷ 0 ∷ 0 ∷ 0 ∷ [] ≡ magic
unfolding magic
magic_bytes = refl

-- the sector, as a list of its pieces
sector : goal.returns-clause-sector
unfolding encoded spelling
sector c =
    let m = c.args.metadata.now in
    let all : c.push_u64-5.new.self ≡ fields Four m =
    next _ _ _ _ _ c.push_u64-5.ensures.bytes refl
    (next _ _ _ _ _ c.push-3.ensures.bytes c.provider_field.ensures
    (next _ _ _ _ _ c.push_u64-4.ensures.bytes (ap u64_field c.bits-2.ensures)
    (next _ _ _ _ _ c.push_u64-3.ensures.bytes (ap u64_field c.bits.ensures)
    (next _ _ _ _ _ c.push_u64-2.ensures.bytes refl
    (next _ _ _ _ _ c.push_u32-7.ensures.bytes refl
    (next _ _ _ _ _ c.push_u64.ensures.bytes refl
    (next _ _ _ _ _ c.push_byte-3.ensures.bytes (ap (λ k. k ∷ []) c.code.ensures)
    (next _ _ _ _ _ c.push_u32-6.ensures.bytes refl
    (next _ _ _ _ _ c.push_byte-2.ensures.bytes refl
    (next _ _ _ _ _ c.push_u32-5.ensures.bytes refl
    (next _ _ _ _ _ c.push_u32-4.ensures.bytes refl
    (next _ _ _ _ _ c.push_byte.ensures.bytes refl
    (next _ _ _ _ _ c.push_u32-3.ensures.bytes refl
    (next _ _ _ _ _ c.push_u32-2.ensures.bytes refl
    (next _ _ _ _ _ c.push-2.ensures.bytes c.to_field.ensures.value
    (next _ _ _ _ _ c.push_u32.ensures.bytes (ap u32_field c.number.ensures)
    (next _ _ _ _ _ c.push.ensures.bytes magic_bytes c.new-draft.ensures.bytes)))))))))))))))))
    ∙ fields_appended m in
    let hash : c.digest-digest.result ≡ md5 (fields Four m) =
    c.digest-digest.ensures ∙ ap md5 (c.written.ensures ∙ all) in
    let n : length c.push-4.new.self ≡ 135 = omega arith in
    ended _ _ _ _ _ _ _ all c.push-4.ensures.bytes hash
    (c.whole.ensures ∙ ap (λ k. c.push-4.new.self ++ replicate (512 - k) 0) n)

pub returns-clause-sector : goal.returns-clause-sector
returns-clause-sector c = sector c

pub returns-clause-full : goal.returns-clause-full
returns-clause-full c =
    let m = c.args.metadata.now in
    let name : length (padded m.name) ≡ 16 =
    search (rules, ap length (sym c.to_field.ensures.value)) in
    let provider : length (provider_field m.provider) ≡ 16 =
    search (rules, ap length (sym c.provider_field.ensures)) in
    let fills : Named m = record { name_fills = name; provider_fills = provider } in
    subst (λ (x : List ℕ). Full x m) (sym (sector c)) (encoded_is_full m fills)
