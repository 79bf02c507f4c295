-- Nothing refuses the tables of a registry when they are made.
use Rattle.gm_registry.proofs.Common.{◌≡◌, List, ℕ, false, refl, arith, lacks_sequence, Schema, Table, IsCreatable, about_text, mirrors_text, components_text, intents_text, commands_text, patches_text, about, mirrors, components, intents, commands, patches, no_schema, with_about, with_mirrors, first_schema, registry_schema}
use Rattle.std.specs.Char.{encode_utf8}
use Rattle.std.specs.Float.Ieee
use Rattle.sqlite_schema.specs.Names.{same_name}
use Rattle.sqlite_tied.specs.Compute.{everything}
use Rattle.sqlite_trees.specs.Sound.{begins, fits_kind, is_free_name, same_name as same_word}
use Rattle.sqlite_value.specs.Order.{value_cmp}
use Rattle.gm_rows.specs.Schema.{with_components, with_intents}
use Rattle.gm_registry.proofs.TextMeanings.{Defines, about_is, mirrors_is, components_is, intents_is, commands_is, patches_is}

about_creatable : IsCreatable no_schema about_text (record about { tree = 0 })
unfolding encode_utf8 same_name same_word fits_kind is_free_name begins value_cmp Ieee.lt
    Ieee.is_nan everything
about_creatable = record {
  utf8 = (about_text, (refl, refl));
  named = (about.name, (refl, refl));
  unreserved = refl;
  free = refl;
  indexes_free = refl;
  low = omega arith;
  no_reals = refl;
  formed = refl;
  fit = refl;
  short = omega arith;
}

mirrors_creatable : IsCreatable with_about mirrors_text (record mirrors { tree = 0 })
unfolding encode_utf8 same_name same_word fits_kind is_free_name begins value_cmp Ieee.lt
    Ieee.is_nan everything
mirrors_creatable = record {
  utf8 = (mirrors_text, (refl, refl));
  named = (mirrors.name, (refl, refl));
  unreserved = refl;
  free = refl;
  indexes_free = refl;
  low = omega arith;
  no_reals = refl;
  formed = refl;
  fit = refl;
  short = omega arith;
}

components_creatable : IsCreatable with_mirrors components_text (record components { tree = 0 })
unfolding encode_utf8 same_name same_word fits_kind is_free_name begins value_cmp Ieee.lt
    Ieee.is_nan everything
components_creatable = record {
  utf8 = (components_text, (refl, refl));
  named = (components.name, (refl, refl));
  unreserved = refl;
  free = refl;
  indexes_free = refl;
  low = omega arith;
  no_reals = refl;
  formed = refl;
  fit = refl;
  short = omega arith;
}

intents_creatable : IsCreatable with_components intents_text (record intents { tree = 0 })
unfolding encode_utf8 same_name same_word fits_kind is_free_name begins value_cmp Ieee.lt
    Ieee.is_nan everything
intents_creatable = record {
  utf8 = (intents_text, (refl, refl));
  named = (intents.name, (refl, refl));
  unreserved = refl;
  free = refl;
  indexes_free = refl;
  low = omega arith;
  no_reals = refl;
  formed = refl;
  fit = refl;
  short = omega arith;
}

commands_creatable : IsCreatable with_intents commands_text (record commands { tree = 0 })
unfolding encode_utf8 same_name same_word fits_kind is_free_name begins value_cmp Ieee.lt
    Ieee.is_nan everything
commands_creatable = record {
  utf8 = (commands_text, (refl, refl));
  named = (commands.name, (refl, refl));
  unreserved = refl;
  free = refl;
  indexes_free = refl;
  low = omega arith;
  no_reals = refl;
  formed = refl;
  fit = refl;
  short = omega arith;
}

patches_creatable : IsCreatable first_schema patches_text (record patches { tree = 0 })
unfolding encode_utf8 same_name same_word fits_kind is_free_name begins value_cmp Ieee.lt
    Ieee.is_nan everything
patches_creatable = record {
  utf8 = (patches_text, (refl, refl));
  named = (patches.name, (refl, refl));
  unreserved = refl;
  free = refl;
  indexes_free = refl;
  low = omega arith;
  no_reals = refl;
  formed = refl;
  fit = refl;
  short = omega arith;
}

-- the text makes the table, and nothing refuses it
pub record Makes (before after : Schema) (text : List ℕ) (table : Table) : Type 0 where
  pub defines : Defines before after text table
  pub uncounted : lacks_sequence after ≡ false
  pub can : IsCreatable before text (record table { tree = 0 })

pub makes_about : Makes no_schema with_about about_text about
makes_about = record { defines = about_is; uncounted = refl; can = about_creatable }

pub makes_mirrors : Makes with_about with_mirrors mirrors_text mirrors
makes_mirrors = record { defines = mirrors_is; uncounted = refl; can = mirrors_creatable }

pub makes_components : Makes with_mirrors with_components components_text components
makes_components = record { defines = components_is; uncounted = refl; can = components_creatable }

pub makes_intents : Makes with_components with_intents intents_text intents
makes_intents = record { defines = intents_is; uncounted = refl; can = intents_creatable }

pub makes_commands : Makes with_intents first_schema commands_text commands
makes_commands = record { defines = commands_is; uncounted = refl; can = commands_creatable }

pub makes_patches : Makes first_schema registry_schema patches_text patches
makes_patches = record { defines = patches_is; uncounted = refl; can = patches_creatable }
