-- What the rules decide of a loss fits the tables, and how many intents are pending after it.
use Rattle.gm_bench.proofs.Common.{◌≡◌, inl, inr, ℕ, ◌+◌, ◌≤◌, ◌<◌, ◌^◌, true, refl, arith, subst, List, [], ◌∷◌, map, sym, length, string_bytes, Further, AreFresh, IfOk, Result, Ok, Err, length-append, cases_Bool, length-map, Sizes, Lost, CommandFits, is_key, words_of, Intent, Meta, Component, AreReadable, Records, IsState, members, Tables, Fact, Refusal, seen_in, after, metas, Changed, Decides, few_members, AreRecordsOf, settled, with_pending, FitsTables, IsFree, count_of, Judged, Kept, Refused, New, Loss, remaining, writes_to, IsFitting, CanBeCommitted, CanCommit, IsRedirected}
use Rattle.gm_bench.proofs.FewBytes.{few_pending}
use Rattle.gm_bench.proofs.FittingPlans.{fits_with, made_fits}
use Rattle.gm_bench.proofs.PlannedAlone.{planned_state}

pub loss_fits : (s : Records) (facts : List Fact) (n p : List ℕ) (r : Result Changed Refusal)
    (t : Tables) → Decides s (seen_in facts) (Lost n (p ∷ [])) r → AreRecordsOf t s
    → CommandFits (Lost n (p ∷ []))
    → IfOk r (λ ch. IsFitting ch (words_of (Lost n (p ∷ []))) t × (length ch.intents ≤ 17)
    × (ch.further ≡ []))
loss_fits s facts n p (Ok ch) t makes are fits =
    let left : IsState (after (seen_in facts) (Lost n (p ∷ [])) s) =
    subst IsState makes.records
    (planned_state s facts (Lost n (p ∷ [])) ch are.state fits makes tt) in
    let others : List Component =
    members (after (seen_in facts) (Lost n (p ∷ [])) s).components n in
    let as_many : length (metas others) ≡ length others =
    length-map others (λ (k : Component). Meta k.provider) in
    let few : length others ≤ 16 =
    few_members (after (seen_in facts) (Lost n (p ∷ [])) s) left n in (
      made_fits s facts (Lost n (p ∷ [])) ch t are fits makes tt,
      rw makes.intents (omega (arith, as_many, few)),
      makes.once,
    )
loss_fits s facts n p (Err r) t least are fits = tt

-- no more intents stay than were pending
fewer_remain : (p next : List ℕ) (ts : List Intent) → length (remaining p next ts) ≤ length ts
fewer_remain p next [] = omega arith
fewer_remain p next (t ∷ ts) =
    let rest : length (remaining p next ts) ≤ length ts = fewer_remain p next ts in
    elim (cases_Bool (writes_to p t)) [
      | inl gone ↦ rw gone (omega (arith, rest))
      | inr left ↦ rw left (omega (arith, rest))
    ]

-- the records are those of the tables without what is pending, too
pub records_settled : (t : Tables) (s : Records) → AreRecordsOf t s → AreRecordsOf (settled t) s
records_settled t s are = record {
  state = are.state;
  rows = record { mirrors = are.rows.mirrors; components = are.rows.components };
}

pub can_commit : (s : Records) (size : Sizes) (ts : List Intent) (bytes : List (List ℕ))
    (n p words key : List ℕ) (ch : Changed) (t : Tables) (j : Judged)
    → IsRedirected s size ts bytes n p words ch j
    → is_key key ≡ true → IsFree t key → count_of t < 100000 → IsFitting ch words (settled t)
    → length ch.intents ≤ 17 → ch.further ≡ [] → CanBeCommitted key ts t j
can_commit s size ts bytes n p words key ch t (Kept number reply) is key_ok free room fits more once = tt
can_commit s size ts bytes n p words key ch t (Refused r) is key_ok free room fits more once = tt
can_commit s size ts bytes n p words key ch t (New loss) l key_ok free room fits more once =
    let left : length (remaining p l.next ts) ≤ length ts = fewer_remain p l.next ts in
    let all = length-append (remaining p l.next ts) ch.intents in
    record {
      key_ok = key_ok;
      free = free;
      room = room;
      once = rw l.change once;
      change = rw (l.change, l.words_are) fits;
      few = rw l.intents (omega (arith, left, more, all));
    }

-- so the tables take it in place of what is pending
pub loss_fits_tables : (key : List ℕ) (ts : List Intent) (t : Tables) (loss : Loss)
    → CanCommit key ts t loss → length ts + 17 < 2 ^ 32 → IsState loss.after
    → AreReadable loss.after loss.bytes.items loss.intents.items
    → FitsTables (with_pending loss.change loss.intents.items loss.bytes.items) key
    (string_bytes loss.words)
    (settled t)
loss_fits_tables key ts t loss can low state readable =
    let few : length loss.intents.items ≤ length ts + 17 = can.few in
    fits_with loss.change loss.intents.items loss.bytes.items key (string_bytes loss.words)
    (settled t) can.change
    (omega (arith, few, low))
    (few_pending loss.after state loss.bytes.items loss.intents.items readable) (refl, refl)
    can.key_ok can.free
    (subst (λ (fs : List Further). AreFresh (settled t) (key ∷ [])
    (map (λ (f : Further). string_bytes f.key) fs)) (sym can.once) tt)
