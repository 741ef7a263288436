-- What a builder of a block of values holds.
use Rattle.std.specs.Prelude.{◌≡◌, ℕ, ◌+◌, ◌≤◌, List, ◌++◌, length, ◌^◌, vec_capacity}
use Rattle.hse_fields.specs.BlockText.{header_size, value_kind, block_header, values_text}
use Rattle.vblock.specs.declared.building.ValueBlockBuilder.{ValueBlockBuilder}

-- The builder holds these values, for a block of at most so many bytes.
pub record Builds (slot : ℕ) (values : List (List ℕ)) (b : ValueBlockBuilder) : Type 0 where
  pub text : b.bytes.items ≡ block_header value_kind 0 0 0 ++ values_text values
  pub counted : b.count ≡ length values
  pub size : b.slot ≡ slot
  pub small : slot ≤ 2 ^ 25
  pub within : header_size + length (values_text values) ≤ slot
  pub reserved : slot ≤ vec_capacity b.bytes
