use Rattle.std.proofs.Common.{◌≤◌, ◌∷◌, ◌++◌, [], true, false, Bool, List, length, if◌then◌else◌, None, arith}
use Rattle.hse_fields.specs.BlockText.{KeyEntry}
use Rattle.hse_fields.specs.BlockReading.{key_entry}
use Rattle.kblock.specs.Building.{goes_in, page_with, pages_with}
use Rattle.block_tests.proofs.keys.built.Goals as goal

-- a key goes on the page that is open, or on a new one
one : (goes : Bool) (entry : KeyEntry) → 1 ≤ length (if goes then [] ++ entry ∷ [] else entry ∷ [])
one true entry = omega arith
one false entry = omega arith

pub finish-requires : goal.finish-requires
finish-requires c =
    let entry : KeyEntry = key_entry 7 c.args.key.now None in
    (65536, pages_with [] [] entry, page_with [] entry, c.in-Ok.ensures.added 65536 [] [] c.in_ok-builder.ensures, one (goes_in [] entry) entry)
