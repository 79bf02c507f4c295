use Rattle.gm_metadata.proofs.Common.{rules, ◌≡◌, true, refl, Ok, is_label_field, name_in, has_hash, is_provider_field, provider_in, settings_of, bytes_at}
use Rattle.gm_metadata.specs.Reading.{said_in}
use Rattle.gm_metadata.proofs.decoding.said_in.Goals as goal

pub returns : goal.returns
unfolding said_in
returns c =
    let v = c.args.version in
    let x = c.args.sector.now in
    let hash : has_hash v x ≡ true = search rules in
    let labelled : is_label_field (bytes_at 20 16 x) ≡ true = search rules in
    let name : c.in-Some.name ≡ name_in (bytes_at 20 16 x) = search rules in
    let passes : is_provider_field (bytes_at 95 16 x) ≡ true = search rules in
    let provider : c.in-Some-provider_of.provider ≡ provider_in (bytes_at 95 16 x) =
    search rules in
    let settings : settings_of v x ≡ Ok c.in_ok-settings.settings = search rules in
    rw (
      hash,
      labelled,
      name,
      passes,
      provider,
      settings,
      c.u32_at.ensures,
      c.u32_at-2.ensures,
      c.u32_at-3.ensures,
      c.u32_at-4.ensures,
      c.u32_at-5.ensures,
      c.u64_at.ensures,
      c.u64_at-2.ensures,
      c.provsize_in.ensures,
    ) refl
