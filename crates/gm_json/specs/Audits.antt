-- What is told of components that were looked at.
use Rattle.std.specs.Prelude.{◌≡◌, ◌++◌, ◌&&◌, ℕ, List, [], ◌∷◌, codes, filter, flat_map, map, not}
use Rattle.serde_json.specs.Data.{Data}
use Rattle.gm_metadata.specs.Images.{same_label}
use Rattle.gm_looks.specs.declared.scrub.Flaw.{Flaw}
use Rattle.gm_looks.specs.declared.scrub.Flaw.TheVariants.{Uncompared, Differs}
use Rattle.gm_unlike.specs.declared.unequal.Unequal.{Unequal}
use Rattle.gm_json.specs.declared.audits.Apart.{Apart}
use Rattle.gm_json.specs.declared.audits.Difference.{Difference}
use Rattle.gm_json.specs.Fields.{each_at, number_at, object_of, text_at, text_of, texts_at}

-- the components that aren't as they are registered
abbrev pub audit_data : List (List ℕ) → Data
audit_data names = object_of (texts_at (codes "amiss") names ∷ [])

-- the others of these that hold the data of one
abbrev pub equal_to : List Difference → Difference → List (List ℕ)
equal_to ds one =
    map (λ d. d.provider)
    (filter (λ d. same_label d.like one.like && not (same_label d.provider one.provider)) ds)

-- one of these components, which has other data than its mirror
abbrev pub difference_data : List Difference → Difference → Data
difference_data ds d = object_of (
    texts_at (codes "equal_to") (equal_to ds d)
    ∷ number_at (codes "first") d.first
    ∷ text_at (codes "name") d.provider
    ∷ number_at (codes "sectors") d.sectors
    ∷ text_at (codes "source") d.source
    ∷ [])

-- of a component with this flaw: that its data differ, if they do
abbrev pub difference_by : Unequal → Flaw → List Difference
difference_by x Uncompared = []
difference_by x (Differs n first) = record {
  provider = x.provider;
  sectors = n;
  first = first;
  source = x.source;
  like = x.like;
} ∷ []

abbrev pub difference_of : Unequal → List Difference
difference_of x = difference_by x x.flaw

-- its name, if its data weren't compared
abbrev pub uncompared_by : List ℕ → Flaw → List (List ℕ)
uncompared_by p Uncompared = p ∷ []
uncompared_by p (Differs n first) = []

abbrev pub uncompared_of : Unequal → List (List ℕ)
uncompared_of x = uncompared_by x.provider x.flaw

-- those whose data differ, and those that weren't compared, each in this order
abbrev pub differing : List Unequal → List Difference
differing flaws = flat_map difference_of flaws

abbrev pub uncompared : List Unequal → List (List ℕ)
uncompared flaws = flat_map uncompared_of flaws

-- the component is put to those that it belongs to
pub record IsAddedTo (x : Unequal) (old new : Apart) : Type 0 where
  pub differ : new.differ.items ≡ old.differ.items ++ difference_of x
  pub uncompared : new.uncompared.items ≡ old.uncompared.items ++ uncompared_of x

-- both
abbrev pub scrub_data : List Unequal → Data
scrub_data flaws = object_of (
    each_at (codes "differ") (difference_data (differing flaws)) (differing flaws)
    ∷ texts_at (codes "uncompared") (uncompared flaws)
    ∷ [])

-- the texts
abbrev pub audit_json : List (List ℕ) → List ℕ
audit_json names = text_of (audit_data names)

abbrev pub scrub_json : List Unequal → List ℕ
scrub_json flaws = text_of (scrub_data flaws)
