-- What a stop leaves while a database is made is none, or one without a table.
use Rattle.std.proofs.Common.{◌≡◌, ◌∙◌, true, [], refl, subst, inl, inr, arith}
use Rattle.std.proofs.Math.Logic.{∥∥₁_map}
use Rattle.gm_opener.specs.Opened.{IsBegun}
use Rattle.sqlite.proofs.ListingLemmas.{empty_is_sound}
use Rattle.sqlite.specs.Files.{HoldsDatabase, IsEmpty}
use Rattle.sqlite_disk.specs.declared.Disk.{Ghosts}
use Rattle.sqlite_pages.specs.PageMap.{PageMap}
use Rattle.sqlite_pool.proofs.ResealLemmas.{adopts_of}
use Rattle.sqlite_pool.specs.File.{in_use, version_in}
use Rattle.sqlite_pool.specs.Opening.{IsNew}
use Rattle.sqlite_pool.specs.Stored.{stored_size, Recovers}
use Rattle.sqlite_pool.specs.StoredLaws.{trimmed_whole}
use Rattle.sqlite_store.proofs.BuildLemmas.{new_is_empty}
use Rattle.sqlite_store.proofs.ListingLemmas.{named_tree, past_version}
use Rattle.sqlite_store.specs.Db.{trees_in}
use Rattle.sqlite_store.specs.Listed.{catalog_rows}
use Rattle.sqlite_store.specs.Listing.{all_trees, file_trees, IsOurs}
use Rattle.sqlite_store.specs.Unopened.{state_of, wanted_by, IsOnTheWay}
use Rattle.sqlite_store.specs.declared.store.open.Unopened.{Unopened}
use Rattle.sqlite_trees.specs.Objects.{catalog_tree}
use Rattle.sqlite_trees.specs.Tree.{Trees}
use Rattle.sqlite_wal.specs.PageSize.{IsPageSize}
use Rattle.sqlite_wal.specs.Recovery.{Image, AreWhole}

half_of_the_usual : IsPageSize (stored_size 2048)
half_of_the_usual = (omega arith, omega arith, refl, refl)

module _ (image : Image) (pages : PageMap) (found : Recovers 2048 image pages) where
  held : (db : Trees) → db ≡ file_trees 2048 [] pages → db catalog_tree ≡ []
      → IsOurs 2048 true [] pages → HoldsDatabase image db
  held db is unlisted ours = (
    2048,
    half_of_the_usual,
    record {
      pages = pages;
      wanted = [];
      schema = _;
      found = adopts_of 2048 image pages found;
      ours = ours;
      reads = is;
      sound = empty_is_sound db unlisted;
    },
  )

  without_a_table : IsOurs 2048 true [] pages → (db : Trees) × HoldsDatabase image db × IsEmpty db
  unfolding trees_in
  without_a_table ours =
      let db = file_trees 2048 [] pages in
      let used = in_use 2048 pages in
      let unlisted = catalog_rows 2048 [] used in (
        db,
        held db refl unlisted ours,
        (
          λ tree low. past_version tree low (all_trees 2048 [] used) (version_in pages)
              ∙ named_tree tree low 2048 [] used,
          unlisted,
        ),
      )

  -- the first page alone is a database without a table
  first_page : IsNew 2048 pages → IsOurs 2048 true [] pages
  first_page new =
      let whole = trimmed_whole 2048 found.stored found.whole in
      let empty = new_is_empty 2048 pages (subst (AreWhole 2048) found.shows whole) new in
      record {
        file = empty.0;
        numbered = λ _. record { listed = empty.1; spaced = refl; ordered = refl };
      }

pub on_the_way : {D : Type 0} {g : Ghosts D} (it : Unopened D g) (image : Image)
    → (state_of it).page_size ≡ 2048 → wanted_by it ≡ [] → IsOnTheWay it image → IsBegun image
on_the_way it image size none way = elim (rw (size, none) at way) [
  | inl blank ↦ inl blank
  | inr made ↦
      let table_free = without_a_table image made.0 made.1 in
      inr (elim made.2 [
        | inl new ↦ ∣ table_free (first_page image made.0 made.1 new) ∣₁
        | inr fresh ↦ ∥∥₁_map fresh (λ it. table_free it.0)
      ])
]
