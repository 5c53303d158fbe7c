mod WordLists
mod LabelTables
mod AcceptedSizes
