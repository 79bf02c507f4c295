-- An opening without a provider: what becomes of the pending intents, and what the world is then.
use Rattle.std.specs.Prelude.{◌≢◌, ℕ, Bool, List, [], ◌∷◌, ◌++◌, Option, Some, if◌then◌else◌}
use Rattle.std.specs.List.{list_any}
use Rattle.gm_metadata.specs.Images.{Image, same_label}
use Rattle.gm_state.specs.declared.intents.Intent.{Intent}
use Rattle.gm_state.specs.declared.intents.Intent.TheVariants.{Meta, Clear, Copy, Dirty, Patch}
use Rattle.gm_state.specs.declared.records.Component.{Component}
use Rattle.gm_state.specs.Readable.{IsCopyWithin, is_patch}
use Rattle.gm_state.specs.Records.{Records}
use Rattle.gm_state.specs.Sources.{source_of}
use Rattle.gm_lists.specs.Ordered.{Has}
use Rattle.gm_state.specs.World.{World}
use Rattle.gm_changes.specs.After.{metas}

-- the intent writes to the provider
abbrev pub writes_to : List ℕ → Intent → Bool
writes_to p (Meta q) = same_label q p
writes_to p (Clear q) = same_label q p
writes_to p (Copy source target first end) = same_label target p
writes_to p (Dirty q) = same_label q p
writes_to p (Patch q first end) = same_label q p

-- a copy from the provider is taken from the next source
abbrev pub redirected : List ℕ → List ℕ → Intent → Intent
redirected p next (Meta q) = Meta q
redirected p next (Clear q) = Clear q
redirected p next (Copy source target first end) =
    if same_label source p then Copy next target first end else Copy source target first end
redirected p next (Dirty q) = Dirty q
redirected p next (Patch q first end) = Patch q first end

-- those that are taken out
abbrev pub dropped : List ℕ → List Intent → List Intent
dropped p [] = []
dropped p (t ∷ ts) = if writes_to p t then t ∷ dropped p ts else dropped p ts

-- those that stay, in their order
abbrev pub remaining : List ℕ → List ℕ → List Intent → List Intent
remaining p next [] = []
remaining p next (t ∷ ts) = if writes_to p t then remaining p next ts else redirected p next t
    ∷ remaining p next ts

-- the source of the copy that is pending from the provider, by the records after its loss: the
-- mirror's; if nothing is copied from it, any name will do
abbrev pub next_of : Records → List ℕ → List Intent → Option (List ℕ)
next_of s p [] = Some p
next_of s p (Meta q ∷ ts) = next_of s p ts
next_of s p (Clear q ∷ ts) = next_of s p ts
next_of s p (Copy source target first end ∷ ts) =
    if same_label source p then source_of s target else next_of s p ts
next_of s p (Dirty q ∷ ts) = next_of s p ts
next_of s p (Patch q first end ∷ ts) = next_of s p ts

-- all that is pending then: Meta of the mirror's other components after what stays
abbrev pub pending_after : List ℕ → List ℕ → List Intent → List Component → List Intent
pending_after p next ts others = remaining p next ts ++ metas others

-- the bytes that are still to be laid then: those of before if a Patch remains, else none
abbrev pub left_to_lay : List Intent → List (List ℕ) → List (List ℕ)
left_to_lay ts bytes = if list_any is_patch ts then bytes else []

-- the image of the provider is what it was left as, whatever pending intents were to write there
abbrev pub as_left : World → List ℕ → Image → World
as_left v p away = record v { shelf = λ q j. if same_label q p then away q j else v.shelf q j }

-- if a pending copy takes from the provider, the next source serves
abbrev pub HasNext : Records → List ℕ → List ℕ → List Intent → Type 0
HasNext s p next ts = (target : List ℕ) (first end : ℕ) → Has ts (Copy p target first end)
    → target ≢ p → IsCopyWithin s next target first end
