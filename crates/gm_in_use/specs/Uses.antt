-- What is kept of the uses of files.
use Rattle.std.specs.Prelude.{◌≡◌, false, Some, unwrap_or}
use Rattle.std.specs.BTreeMap.{BTreeMap, get, is_at}
use Rattle.std.specs.declared.cmp.Ordering.{Ordering}

-- At the key is what was there, or else this; what is at others stays.
pub record NotesFirst {K X : Type 0} (cmp : K → K → Ordering) (old new : BTreeMap K X) (k : K)
    (x : X) : Type 0 where
  pub noted : get cmp new k ≡ Some (unwrap_or (get cmp old k) x)
  pub others : (q : K) → is_at (cmp k) q ≡ false → get cmp new q ≡ get cmp old q
