use Rattle.gm_rows.proofs.Common.{◌≡◌, ◌∙◌, sym, ap, subst, subst₂, map, List, true, false, Row, columns_at, six, IsIntentValue, AreReadable, SayState, ArePatches}
use Rattle.std.proofs.Math.Path.{subst₃}
use Rattle.gm_rows.proofs.ReorderedValues.{all_each}
use Rattle.gm_rows.proofs.TypedRecords.{intent_value}
use Rattle.gm_rows.proofs.RowsSayRecords.{one_blob, one_list, passed_on}
use Rattle.gm_rows.proofs.said_state.judge.Goals as goal

pub returns-in_err-intents-clause-unreadable : goal.returns-in_err-intents-clause-unreadable
returns-in_err-intents-clause-unreadable c =
    passed_on c.from_residual-in_err-intents.result _ _ (λ e same is s ts bytes says.
    c.in_err-intents.ensures.unreadable (sym same ∙ is) ts
    (all_each IsIntentValue ts (λ t has. intent_value s says.records.state t
    (says.readable.each t has)))
    (ap (map (columns_at six)) c.deref-4.ensures.value ∙ says.intents))
    c.from_residual-in_err-intents.ensures.1

pub returns-in_err-bytes-clause-unreadable : goal.returns-in_err-bytes-clause-unreadable
returns-in_err-bytes-clause-unreadable c =
    passed_on c.from_residual-in_err-bytes.result _ _ (λ e same is s ts bytes says.
    c.in_err-bytes.ensures.unreadable (sym same ∙ is) bytes says.readable.sectors
    (subst (ArePatches bytes) (sym c.deref-5.ensures.value) says.patches))
    c.from_residual-in_err-bytes.ensures.1

pub returns-then-not-are_readable-clause-unreadable :
    goal.returns-then-not-are_readable-clause-unreadable
returns-then-not-are_readable-clause-unreadable c is s ts bytes says =
    let records = subst₂ (λ (m k : List Row). SayState m k s) (sym c.deref-2.ensures.value)
    (sym c.deref-3.ensures.value) says.records in
    let state : s ≡ c.in_ok-state.state = c.in_ok-state.ensures.only s records in
    let rows = ap (map (columns_at six)) c.deref-4.ensures.value ∙ says.intents in
    let intents : ts ≡ c.deref-7.result.now =
    one_list 1 ts c.in_ok-intents.intents.items (sym rows ∙ c.in_ok-intents.ensures.read)
    ∙ sym c.deref-7.ensures.value in
    let patches : bytes ≡ c.deref-6.result.now =
    one_blob bytes c.in_ok-bytes.bytes.items says.readable.sectors c.in_ok-bytes.ensures.whole
    (sym (subst (ArePatches bytes) (sym c.deref-5.ensures.value) says.patches)
    ∙ c.in_ok-bytes.ensures.says) ∙ sym c.deref-6.ensures.value in
    let readable : AreReadable c.in_ok-state.state c.deref-6.result.now c.deref-7.result.now =
    subst₃ AreReadable state patches intents says.readable in
    absurd (let e : true ≡ false = sym (c.are_readable.ensures.1 readable)
    ∙ c.if-not-are_readable.true in cc)
