-- A store of either schema is one of ours, which an opening knows.
use Rattle.gm_registry.proofs.Common.{inl, inr, Trees, IsSound, first_schema, registry_schema, HasOurTables, IsKnownStore, First, Second}

pub first_is_ours : (db : Trees) → IsSound first_schema db → HasOurTables db
first_is_ours db sound = (First, sound)

pub second_is_ours : (db : Trees) → IsSound registry_schema db → HasOurTables db
second_is_ours db sound = (Second, sound)

pub known_first : (db : Trees) → IsSound first_schema db → IsKnownStore db
known_first db sound = inr (inl (first_is_ours db sound))

pub known_second : (db : Trees) → IsSound registry_schema db → IsKnownStore db
known_second db sound = inr (inl (second_is_ours db sound))
