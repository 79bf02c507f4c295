-- How many members an object has.
use Rattle.gm_http.proofs.Common.{◌≡◌, refl, arith, List, [], ◌∷◌, length, String, members_view, count}
use Rattle.std.specs.declared.alloc.Global.{Global}
use Rattle.serde_json.specs.declared.Value.{Value}

pub count_of : (ms : List (String Global × Value)) → count (members_view ms) ≡ length ms
count_of [] = refl
count_of (m ∷ ms) = let e = count_of ms in omega (arith, e)
