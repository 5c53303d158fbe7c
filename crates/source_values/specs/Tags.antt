-- Kinds of values, as the meaning has them.
use Rattle.typed_core.specs.SourceValues as values
use Rattle.source_values.specs.declared.values.Tag.{Tag}
use Rattle.source_values.specs.declared.values.Tag.TheVariants as tag

abbrev pub tag_of : Tag → values.Tag
tag_of tag.Number = values.Number
tag_of tag.Truth = values.Truth
tag_of tag.Array = values.Array
tag_of tag.Tuple = values.Tuple
