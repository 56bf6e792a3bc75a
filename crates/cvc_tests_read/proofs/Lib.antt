mod FlatLists
